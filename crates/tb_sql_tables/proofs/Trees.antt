-- No write sets off another.
use Rattle.std.proofs.Common.{◌≡◌, ℕ, List, [], length, ◌==◌, Bool, true, false, refl}
use Rattle.std.specs.List.{flat_map, filter_map}
use Rattle.sqlite_value.specs.Order.{Row}
use Rattle.sqlite_schema.specs.declared.schema.Keys.TheVariants.{Enforced}
use Rattle.sqlite_schema.specs.Rules.{parent_key}
use Rattle.sqlite_rules.specs.Action.{Work, works, work_by, pairs, deed_for}
use Rattle.tb_sql_tables.specs.Tables.{old_schema, store_schema}

-- Each reference refuses what would break it, so it acts on nothing.
pub quiet : (tree : ℕ) (olds news : List Row) → works store_schema Enforced 0 tree olds news ≡ []
quiet tree olds news = go (length news == 0)
  where
    by_way : Bool → List Work
    by_way deletes = flat_map (λ child. filter_map (λ ref. work_by 0 tree (pairs olds news) child ref (deed_for Enforced deletes ref) (parent_key store_schema.tables ref)) child.references) store_schema.tables

    go : (deletes : Bool) → by_way deletes ≡ []
    go true = refl
    go false = refl

pub old_quiet : (tree : ℕ) (olds news : List Row) → works old_schema Enforced 0 tree olds news ≡ []
old_quiet tree olds news = go (length news == 0)
  where
    by_way : Bool → List Work
    by_way deletes = flat_map (λ child. filter_map (λ ref. work_by 0 tree (pairs olds news) child ref (deed_for Enforced deletes ref) (parent_key old_schema.tables ref)) child.references) old_schema.tables

    go : (deletes : Bool) → by_way deletes ≡ []
    go true = refl
    go false = refl
