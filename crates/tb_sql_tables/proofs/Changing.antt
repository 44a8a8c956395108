-- Changes one after the other.
use Rattle.std.proofs.Common.{◌≡◌, ◌∙◌, IsTrue, true, refl, sym, subst, Result, Ok, Err, OnOk, IfOk}
use Rattle.sqlite_trees.specs.declared.store.Store.{Ghosts}
use Rattle.sqlite.specs.Held.{Held, state}
use Rattle.sqlite.specs.State.{State, KeepsCommit}
use Rattle.sqlite.specs.Effect.{Database}
use Rattle.tb_sql_tables.specs.Content.{Content, IsContent}
use Rattle.tb_sql_tables.specs.Statements.{Changes, Turns}

pub no_change : (a : State) → IsTrue a.in_transaction → IsTrue a.is_open → Changes (λ content. content) a a
no_change a inside is_open = record {
  shown = record { was_open = is_open; is_open = is_open; now_is = refl; committed_is = refl; mode = inside };
  content = λ content is. is;
}

pub changes_then : (f g : Content → Content) (a b c : State) → Changes f a b → Changes g b c → Changes (λ content. g (f content)) a c
changes_then f g a b c p q = record {
  shown = record { was_open = p.shown.was_open; is_open = q.shown.is_open; now_is = refl; committed_is = q.shown.committed_is ∙ p.shown.committed_is; mode = q.shown.mode };
  content = λ content is. q.content (f content) (p.content content is);
}

-- `transaction` does nothing to the store
pub changes_begun : {S : Type 0} (g : Ghosts S) (old : Held S) (new : State) (change : Content → Content) → Changes change (state g (record old { in_transaction = true })) new → Changes change (state g old) new
changes_begun g old new change p = record {
  shown = record { was_open = p.shown.was_open; is_open = p.shown.is_open; now_is = p.shown.now_is; committed_is = p.shown.committed_is; mode = p.shown.mode };
  content = p.content;
}

pub commit_kept : (f : Content → Content) (a b : State) → Changes f a b → KeepsCommit a b
commit_kept f a b p = record { was_open = λ _. p.shown.was_open; committed = λ _. p.shown.committed_is }

pub commit_kept_then : (a b c : State) → KeepsCommit a b → KeepsCommit b c → KeepsCommit a c
commit_kept_then a b c p q = record { was_open = λ h. p.was_open (q.was_open h); committed = λ h. q.committed h ∙ p.committed (q.was_open h) }

-- what follows where a call succeeds
pub where_ok : {A E P Q : Type 0} (result : Result A E) → (P → Q) → OnOk result P → OnOk result Q
where_ok (Ok a) step h = step h
where_ok (Err e) step h = tt

-- what holds whether or not a call succeeds
pub at_ok : {A E P : Type 0} (result : Result A E) → P → OnOk result P
at_ok (Ok a) holds = holds
at_ok (Err e) holds = tt

-- what follows of the value of a call that succeeds
pub of_value : {A E : Type 0} {P Q R : A → Type 0} (result : Result A E) → IfOk result P → IfOk result Q → ((value : A) → P value → Q value → R value) → IfOk result R
of_value (Ok value) p q step = step value p q
of_value (Err e) p q step = tt

-- what holds of the value that a call gives
pub where_value : {A E : Type 0} (result : Result A E) (value : A) (P : A → Type 0) → IfOk result (λ x. x ≡ value) → P value → IfOk result P
where_value (Ok x) value P is h = subst P (sym is) h
where_value (Err e) value P is h = tt

-- ---- of one database to another

-- what a change makes of one content
pub turns_of : (change : Content → Content) (old new : State) (content : Content) → Changes change old new → Turns (IsContent content) (IsContent (change content)) old new
turns_of change old new content p = record { shown = p.shown; made = p.content content }

pub turns_then : (P Q R : Database → Type 0) (a b c : State) → Turns P Q a b → Turns Q R b c → Turns P R a c
turns_then P Q R a b c p q = record {
  shown = record { was_open = p.shown.was_open; is_open = q.shown.is_open; now_is = refl; committed_is = q.shown.committed_is ∙ p.shown.committed_is; mode = q.shown.mode };
  made = λ was. q.made (p.made was);
}

pub turns_begun : {S : Type 0} (g : Ghosts S) (old : Held S) (new : State) (P Q : Database → Type 0) → Turns P Q (state g (record old { in_transaction = true })) new → Turns P Q (state g old) new
turns_begun g old new P Q p = record {
  shown = record { was_open = p.shown.was_open; is_open = p.shown.is_open; now_is = p.shown.now_is; committed_is = p.shown.committed_is; mode = p.shown.mode };
  made = p.made;
}
