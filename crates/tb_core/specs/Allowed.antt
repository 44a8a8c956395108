-- Whom a command is for.
use Rattle.std.specs.Prelude.{Bool}
use Rattle.tb_board.specs.declared.world.Role.{Role}
use Rattle.tb_board.specs.World.{is_owner, may_change}
use Rattle.tb_core.specs.declared.command.BoardCommand.{BoardCommand}
use Rattle.tb_core.specs.declared.command.BoardCommand.TheVariants.{Add, OnTask, Modify, Depend, Undepend, SetAhead, Retitle, Sweep, Import}

-- the role suffices for a command on a board: its title and how far ahead it looks are for owners, all else for members too
-- Rule: readers only look. Refused as NotAllowed. Tried by reader_looks_only.
-- Rule: owners alone set title and ahead. Refused as NotAllowed. Tried by board_retitled.
abbrev pub allows : Role → BoardCommand → Bool
allows role (Add i) = may_change role
allows role (OnTask id a) = may_change role
allows role (Modify id edits) = may_change role
allows role (Depend id on) = may_change role
allows role (Undepend id on) = may_change role
allows role (SetAhead ahead) = is_owner role
allows role (Retitle title) = is_owner role
allows role Sweep = may_change role
allows role (Import tasks) = may_change role
