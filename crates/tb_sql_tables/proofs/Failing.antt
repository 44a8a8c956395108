-- A query whose text a store understands fails for want of memory, or since the disk failed or refused a call.
use Rattle.std.proofs.Common.{◌≡◌, ◌≢◌, ◌∙◌, ◌⊎◌, ◌≤◌, inl, inr, ℕ, List, [], ◌∷◌, length, Option, Some, None, Result, Ok, Err, IfErr, All, IsTrue, IsSome, Any, true, false, refl, sym, ap, subst, subst₂, append-nil, true≢false, arith}
use Rattle.sqlite_value.specs.declared.keys.Key.{Key}
use Rattle.sqlite_value.specs.Order.{Row}
use Rattle.sqlite_trees.specs.declared.error.StoreError.{StoreError}
use Rattle.sqlite_trees.specs.declared.error.StoreError.TheVariants.{OutOfMemory, Io, Corrupt, Full, Broken, Unstorable}
use Rattle.sqlite_sql.specs.Term.{Term}
use Rattle.sqlite_sql.specs.Program.{ProgramOverflows}
use Rattle.sqlite_schema.specs.declared.command.Command.{Command}
use Rattle.sqlite_schema.specs.declared.command.Command.TheVariants.{Select}
use Rattle.sqlite_typing.specs.Types.{accepts_program}
use Rattle.sqlite_resolve.specs.declared.compiled.Compiled.{Compiled}
use Rattle.sqlite_resolve.specs.declared.error.CompileError.{CompileError}
use Rattle.sqlite.specs.declared.error.ErrorCode.TheVariants as code
use Rattle.sqlite.specs.declared.error.Error.{Error}
use Rattle.sqlite.specs.declared.error.Error.TheVariants.{SqliteFailure}
use Rattle.sqlite.specs.Effect.{Database, RefusesToRead, RefusesQuery}
use Rattle.sqlite.specs.Given.{IsPlain}
use Rattle.sqlite.specs.Listing.{understood, reads_listing, IsSourceOf}
use Rattle.sqlite.specs.State.{State, Fails, FailsToQuery, FailsToShow, HasCause, HasCleanDisk, IsNoStatement, IsNotRun, IsTooLate, Survives, store_error}
use Rattle.sqlite.proofs.Callers.{command_of}
use Rattle.tb_sql_tables.specs.Tables.{store_schema}
use Rattle.tb_sql_tables.specs.Content.{Content, IsContent}
use Rattle.tb_sql_tables.specs.Failing.{IsExcused, IsReady, HasFaulted, KeepsFaults}
use Rattle.tb_sql_tables.proofs.Queries.{query_of, program_of}
use Rattle.tb_sql_tables.proofs.Statements.{Asks}

-- where the next statement begins, and how many parameters there are
abbrev pub end_of : Result Compiled CompileError → ℕ
end_of (Ok c) = c.tail
end_of (Err e) = 0

abbrev pub count_of : Result Compiled CompileError → ℕ
count_of (Ok c) = length c.names
count_of (Err e) = 0

-- the text is one statement, with as many parameters as these, whose types fit
pub record Suits (text : List ℕ) (tree : ℕ) (test project : List Term) (order : List (Term × Key)) (params : Row) : Type 0 where
  pub whole : end_of (understood store_schema text) ≡ length text
  pub given : count_of (understood store_schema text) ≡ length params
  pub typed : accepts_program store_schema [] (query_of tree test project order) params ≡ true

failed_so : (old new : State) (e : Error) → e ≢ SqliteFailure code.OutOfMemory → IsTrue old.is_open → Fails old new ⊥ e → HasFaulted old new
failed_so old new e other is_open failed = go failed.0 failed.1 failed.2
  where
    go : (cause : StoreError) → e ≡ store_error cause → HasCause old new ⊥ cause → HasFaulted old new
    go OutOfMemory is why = absurd (other is)
    go Io is why = why
    go Corrupt is why = why
    go Full is why = why
    go Broken is why = absurd (true≢false (sym is_open ∙ why))
    go Unstorable is why = absurd why

module _ (text : List ℕ) (tree : ℕ) (test project : List Term) (order : List (Term × Key)) (asks : Asks text tree test project order) (params : Row) (suits : Suits text tree test project order params)
    (old new : State) (e : Error) (has : old.now.schema ≡ store_schema) (ready : IsReady old) where
  never_plain : (c : Compiled) → understood old.now.schema text ≡ Ok c → IsPlain (Ok c)
  never_plain c is = subst IsPlain (sym (ap (λ s. understood s text) has) ∙ is) asks.means.bare

  is_statement : IsNoStatement old text params e → ⊥
  is_statement (inl none) = subst IsPlain (sym (ap (λ s. understood s text) has) ∙ none.1) asks.means.bare
  is_statement (inr (c, is, inl more)) =
      let end : c.tail ≡ length text = ap end_of (sym is ∙ ap (λ s. understood s text) has) ∙ suits.whole in
      more.0 (omega (arith, end))
  is_statement (inr (c, is, inr (inl other))) = other.0 (sym (ap count_of (sym is ∙ ap (λ s. understood s text) has) ∙ suits.given))
  is_statement (inr (c, is, inr (inr clock))) = clock.0 (never_plain c is).1

  reads_on : RefusesQuery None old.now (program_of (query_of tree test project order)) params e → ⊥
  reads_on (inl typed) = true≢false (sym (subst (λ s. accepts_program s [] (query_of tree test project order) params ≡ true) (sym has) suits.typed) ∙ typed.1)
  reads_on (inr (inl (is, inl grouped))) = grouped
  reads_on (inr (inl (is, inr folded))) = absurd folded.4
  reads_on (inr (inr limit)) = absurd cc

  pub fails_so : e ≢ SqliteFailure code.OutOfMemory → FailsToQuery text params old new e ⊎ IsTooLate text params old new e → HasFaulted old new
  unfolding FailsToQuery IsNotRun
  fails_so other (inl (inl (inl none))) = absurd (is_statement none.0)
  fails_so other (inl (inl (inr failed))) = failed_so old new e other ready.is_open failed
  fails_so other (inl (inr h)) =
      let known = sym h.1.is ∙ ap (λ s. understood s text) has in
      let bare = never_plain h.0 h.1.is in
      let it = rw (bare.0, bare.1, append-nil params) at h.2 in
      let db : it.0 ≡ old.now = subst (λ b. IsSourceOf b old.now it.0) (ap (λ s. reads_listing s text) has ∙ asks.unlisted) it.1 in
      let command : h.0.command ≡ Select (program_of (query_of tree test project order)) asks.names = ap command_of known ∙ asks.means.is in
      let refused = subst (λ l. RefusesToRead l h.0.command it.0 params e) ready.unlimited it.2 in
      absurd (reads_on (subst₂ (λ k d. RefusesToRead None k d params e) command db refused))
  fails_so other (inr late) = absurd (let none = rw (never_plain late.0 late.1.is).0 at late.2 in cc)

-- where the rows of each content are read without a refusal, so is what a query showed of them
pub reading_excused : {X : Type 0} (P : Row → Type 0) (old new : State) (rows : List Row) (result : Result X Error) → ((content : Content) → IsContent content old.now → All P rows)
    → IfErr result (λ e. e ≢ SqliteFailure code.OutOfMemory → ¬ All P rows) → IfErr result (IsExcused old new)
reading_excused P old new rows (Ok x) reads refused = tt
reading_excused P old new rows (Err e) reads refused = λ other ready content is. absurd (refused other (reads content is))

-- ---- faults since

-- a fault before others, or behind them, is one of them all
pub fault_before : (a b c : State) → HasFaulted a b → b.faults ≤ c.faults → HasFaulted a c
fault_before a b c fault later = omega (arith, fault, later)

pub fault_behind : (a b c : State) → a.faults ≤ b.faults → HasFaulted b c → HasFaulted a c
fault_behind a b c earlier fault = omega (arith, earlier, fault)

pub keeps_faults : (old new : State) → Survives old new (λ _. ⊥) → KeepsFaults old new
keeps_faults old new s = record { counts = s.counts; limit = s.limit; closes = s.closes }

-- one call after another
pub faults_then : (a b c : State) → KeepsFaults a b → (HasCleanDisk c → HasCleanDisk b) → KeepsFaults b c → KeepsFaults a c
faults_then a b c first clean second = record {
  counts = omega (arith, first.counts, second.counts);
  limit = second.limit ∙ first.limit;
  closes = λ clean_c is_open. elim (first.closes (clean clean_c) is_open) [
    | inl still ↦ elim (second.closes clean_c still) [ inl at_last ↦ inl at_last | inr fault ↦ inr (fault_behind a b c first.counts fault) ]
    | inr fault ↦ inr (fault_before a b c fault second.counts)
  ];
}

-- a transaction that is dropped
pub look_keeps_faults : (old mid new : State) → Survives old mid (λ _. ⊥) → Survives mid new (λ _. ⊥) → KeepsFaults old new
look_keeps_faults old mid new inside ended = faults_then old mid new (keeps_faults old mid inside) (λ clean. omega (arith, ended.clean)) (keeps_faults mid new ended)

-- a connection is left ready, or there was a fault
pub still_ready : (old new : State) → KeepsFaults old new → HasCleanDisk new → IsReady old → IsReady new ⊎ HasFaulted old new
still_ready old new keeps clean ready = elim (keeps.closes clean ready.is_open) [
  | inl is_open ↦ inl (record { is_open = is_open; unlimited = keeps.limit ∙ ready.unlimited })
  | inr fault ↦ inr fault
]
