-- Masks, which may be NULL.
use Rattle.std.proofs.Common.{◌≡◌, List, ℕ, Option, Some, None, option_map, refl}
use Rattle.sqlite_value.specs.declared.value.Value.TheVariants.{Text}
use Rattle.sqlite_schema.specs.declared.schema.Kind.TheVariants.{Text as TextKind}
use Rattle.sqlite_rules.specs.Cast.{cast}
use Rattle.sqlite.specs.Values.{or_null, bound_value}
use Rattle.tb_sql_tables.specs.Read.{mask_of}

-- a text, or no value, is stored as it is
pub cast_mask : (mask : Option (List ℕ)) → cast TextKind (or_null Text mask) ≡ or_null Text mask
cast_mask None = refl
cast_mask (Some mask) = refl

-- a mask that is lent is bound as it is
pub mask_is : {X : Type 0} (f : X → List ℕ) (mask : Option X) → bound_value (or_null (λ x. Text (f x)) mask) ≡ or_null Text (option_map f mask)
mask_is f None = refl
mask_is f (Some mask) = refl

-- and is read again
pub mask_read : (mask : Option (List ℕ)) → mask_of (or_null Text mask) ≡ mask
mask_read None = refl
mask_read (Some mask) = refl
