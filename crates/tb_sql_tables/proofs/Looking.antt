-- A query inside a transaction changes nothing.
use Rattle.std.proofs.Common.{◌≡◌, ◌∙◌, List, ℕ, Option, Some, None, Ok, IsTrue, true, cond, refl, sym, ap, subst}
use Rattle.sqlite_value.specs.declared.keys.Key.{Key}
use Rattle.sqlite_value.specs.Order.{Row}
use Rattle.sqlite_sql.specs.Term.{Term}
use Rattle.sqlite_schema.specs.declared.command.Returning.{Returning}
use Rattle.sqlite.specs.Clock.{timed}
use Rattle.sqlite.specs.Given.{IsPlain}
use Rattle.sqlite.specs.Listing.{understood}
use Rattle.sqlite.specs.State.{State, Shown, Shows, ShowsRows}
use Rattle.tb_sql_tables.specs.Content.{Content, IsContent}
use Rattle.tb_sql_tables.specs.Statements.{Changes}
use Rattle.tb_sql_tables.proofs.Statements.{Asks}

pub looks_on : (text : List ℕ) (tree : ℕ) (test project : List Term) (order : List (Term × Key)) → Asks text tree test project order → (old new : State) (params : Row) (rows : List Row)
    → IsTrue old.in_transaction → Shown text params old new rows → Changes (λ content. content) old new
unfolding Shown
looks_on text tree test project order asks old new params rows inside h = record {
  shown = shows h.0.returning h.2;
  content = λ content is.
      let plain : IsPlain (Ok h.0) = subst IsPlain (sym (ap (λ s. understood s text) is.schema) ∙ h.1.is) asks.means.bare in
      let same = (subst (λ o. ShowsRows old new text h.0 (timed params h.0.formats h.1.now) rows o) plain.0 h.2).3 in
      subst (IsContent content) (sym same.0.now_is) is;
}
  where
    shows : (o : Option Returning) → ShowsRows old new text h.0 (timed params h.0.formats h.1.now) rows o → Shows old new new.now old.committed true
    shows None s = record { was_open = s.3.0.was_open; is_open = s.3.0.is_open; now_is = refl; committed_is = s.3.0.committed_is; mode = s.3.0.mode ∙ inside }
    shows (Some what) s =
        record { was_open = s.1.shown.was_open; is_open = s.1.shown.is_open; now_is = refl; committed_is = s.1.shown.committed_is ∙ ap (λ b. cond b old.committed new.now) inside; mode = s.1.shown.mode ∙ inside }
