pub mod Names
pub mod NoFloats
pub mod RoleBodies
pub mod RoleLists
