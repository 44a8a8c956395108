-- What a connection that has just been opened shows.
use Rattle.std.proofs.Common.{◌≡◌, ◌≢◌, ◌∙◌, ◌⊎◌, ◌&&◌, ◌==◌, Bool, ℕ, List, [], ◌∷◌, codes, bytes_eq, cond, length, Result, IfOk, IsPermutation, IsTrue, true, false, true≢false, Ok, Err, arith, inl, inr, refl, sym, ap, subst}
use Rattle.std.proofs.lemmas.List.Sorted.{length_permutation, All-permutation}
use Rattle.std.proofs.lemmas.List.Elements.{All-from_recursion, recursion_from_All}
use Rattle.std.proofs.lemmas.Bool.{eqb-true}
use Rattle.sqlite_trees.specs.Tree.{Trees}
use Rattle.sqlite_schema.specs.declared.schema.Table.{Table}
use Rattle.sqlite_schema.specs.declared.schema.Schema.{Schema}
use Rattle.sqlite_catalog.specs.Listing.{IsSound}
use Rattle.sqlite.specs.Effect.{Database}
use Rattle.sqlite.proofs.Callers.{one_permutation}
use Rattle.sqlite.specs.State.{State, HasCleanDisk, IsLive, KeepsCommit, IsRolledBack, Survives}
use Rattle.tb_sql_tables.specs.Failing.{IsAtRest}
use Rattle.tb_sql_tables.specs.Tables.{no_schema, old_schema, second_schema, store_schema}
use Rattle.tb_sql_tables.specs.Content.{Content, AreOldRows, AreRows, AreSecondRows, AreVersionRows, IsContent, Stands, StandsBy}
use Rattle.tb_sql_tables.specs.Standing.{IsOldContent, IsSecondContent, StandsEmpty, StandsOld, StandsSecond}
use Rattle.tb_sql_tables.proofs.Once.{schema_once}
use Rattle.tb_sql_tables.specs.declared.rows.MetaRow.{MetaRow}
use Rattle.tb_sql.specs.declared.opening.OpenFault.{OpenFault}
use Rattle.tb_sql.specs.declared.opening.OpenFault.TheVariants.{Memory, NotOurs, Store, WrongVersion}
use Rattle.tb_sql.specs.declared.opening.Version.{Version}
use Rattle.tb_sql.specs.declared.opening.Version.TheVariants.{First, Second, Third}
use Rattle.tb_sql.specs.declared.opening.Number.{Number}
use Rattle.tb_sql.specs.declared.opening.Number.TheVariants.{One, Two}
use Rattle.tb_sql.specs.declared.store.StoreFault.{StoreFault}
use Rattle.tb_sql.specs.declared.store.StoreFault.TheVariants.{Memory as StoreMemory, Store as StoreFailed}
use Rattle.tb_sql.specs.Opening.{are_tables, by_version, chosen, has_meta, has_tables, if_there, is_old, is_ours, is_second, judged, old_meta, our_meta, taken, AreMetas, IsAsBefore, IsOfStore, is_meta, is_person, is_board, is_role, is_task, is_link, is_instance, is_gone, is_kept, is_horizon, is_history}

-- rows of a content make the schema that of a store
pub opened_content : (s : State) (content : Content) → IsAtRest s → IsLive s → AreRows content s.now.trees → IsContent content s.now
opened_content s content opened live rows = record { schema = sym (schema_once store_schema s.now.schema s.now.trees refl rows.sound (live opened.is_open).0); rows = rows }

pub opened_old : (s : State) (content : Content) → IsAtRest s → IsLive s → AreOldRows content s.now.trees → IsOldContent content s.now
opened_old s content opened live rows = record { schema = sym (schema_once old_schema s.now.schema s.now.trees refl rows.sound (live opened.is_open).0); rows = rows }

pub opened_second : (s : State) (content : Content) → IsAtRest s → IsLive s → AreSecondRows content s.now.trees → IsSecondContent content s.now
opened_second s content opened live rows = record { schema = sym (schema_once second_schema s.now.schema s.now.trees refl rows.sound (live opened.is_open).0); rows = rows }

module _ (s : State) (settled : (db : Trees) → IsTrue s.is_open → s.may_leave db → db ≡ s.committed.trees) where
  at_rest : (Seen : Database → Type 0) (Left : Trees → Type 0) → IsAtRest s → Seen s.now → Left s.now.trees → StandsBy Seen Left s
  at_rest Seen Left opened seen left = record {
    seen = λ clean is_open. (seen, sym opened.clean);
    left = λ clean db may.
        let is : db ≡ s.now.trees = settled db opened.is_open may ∙ ap (λ (d : Database). d.trees) (sym opened.clean) in
        subst Left (sym is) left;
  }

  pub opened_stands : (content : Content) → IsAtRest s → IsLive s → AreRows content s.now.trees → Stands content s
  opened_stands content opened live rows = at_rest (IsContent content) (AreRows content) opened (opened_content s content opened live rows) rows

  pub opened_stands_old : (content : Content) → IsAtRest s → IsLive s → AreOldRows content s.now.trees → StandsOld content s
  opened_stands_old content opened live rows = at_rest (IsOldContent content) (AreOldRows content) opened (opened_old s content opened live rows) rows

  pub opened_stands_second : (content : Content) → IsAtRest s → IsLive s → AreSecondRows content s.now.trees → StandsSecond content s
  opened_stands_second content opened live rows = at_rest (IsSecondContent content) (AreSecondRows content) opened (opened_second s content opened live rows) rows

  pub opened_empty : IsAtRest s → IsLive s → s.now.schema ≡ no_schema → StandsEmpty s
  opened_empty opened live none = at_rest (λ db. db.schema ≡ no_schema) (IsSound no_schema) opened none (subst (λ schema. IsSound schema s.now.trees) none (live opened.is_open).0)

-- another number of tables than of tests
pub other_length : (tests : List (Table → Bool)) (tables : List Table) → (length tables ≡ length tests → ⊥) → false ≡ are_tables tests tables
other_length [] [] other = absurd (other refl)
other_length [] (t ∷ tables) other = refl
other_length (p ∷ tests) [] other = refl
other_length (p ∷ tests) (t ∷ tables) other = last (p t) (other_length tests tables (λ same. other (omega (arith, same))))
  where
    last : (b : Bool) {c : Bool} → false ≡ c → false ≡ (b && c)
    last true e = e
    last false e = refl

-- ---- rows of a content, in the tables of one of the versions

our_first : has_meta store_schema.tables ≡ true
unfolding Rattle.sqlite_schema.specs.Names.same_name is_meta
our_first = refl

second_first : has_meta second_schema.tables ≡ true
unfolding Rattle.sqlite_schema.specs.Names.same_name is_meta
second_first = refl

old_first : has_meta old_schema.tables ≡ true
unfolding Rattle.sqlite_schema.specs.Names.same_name is_meta
old_first = refl

ours_taken : taken store_schema (our_meta ∷ []) ≡ Ok Third
unfolding Rattle.sqlite_schema.specs.Names.same_name is_meta is_person is_board is_role is_task is_link is_instance is_gone is_kept is_horizon is_history
ours_taken = refl

second_taken : taken second_schema (our_meta ∷ []) ≡ Ok Second
unfolding Rattle.sqlite_schema.specs.Names.same_name is_meta is_person is_board is_role is_task is_link is_instance is_gone is_kept is_horizon is_history
second_taken = refl

old_taken : taken old_schema (old_meta ∷ []) ≡ Ok First
unfolding Rattle.sqlite_schema.specs.Names.same_name is_meta is_person is_board is_role is_task is_link is_instance is_gone is_kept is_horizon is_history
old_taken = refl

has_first_table : (schema known : Schema) → schema ≡ known → has_meta known.tables ≡ true → has_meta schema.tables ≡ false → ⊥
has_first_table schema known is first other = absurd (true≢false (sym first ∙ ap (λ x. has_meta x.tables) (sym is) ∙ other))

pub store_has_meta : (schema : Schema) → IsOfStore schema → has_meta schema.tables ≡ false → ⊥
store_has_meta schema (inl is) other = has_first_table schema store_schema is our_first other
store_has_meta schema (inr (inl is)) other = has_first_table schema second_schema is second_first other
store_has_meta schema (inr (inr is)) other = has_first_table schema old_schema is old_first other

of_store : (s : State) (content : Content) → IsAtRest s → IsLive s → AreVersionRows content s.now.trees → IsOfStore s.now.schema
of_store s content opened live (inl rows) = inl (opened_content s content opened live rows).schema
of_store s content opened live (inr (inl rows)) = inr (inl (opened_second s content opened live rows).schema)
of_store s content opened live (inr (inr rows)) = inr (inr (opened_old s content opened live rows).schema)

pub first_refused : (s : State) (content : Content) → IsAtRest s → IsLive s → has_meta s.now.schema.tables ≡ false → AreVersionRows content s.now.trees → ⊥
first_refused s content opened live other rows = store_has_meta s.now.schema (of_store s content opened live rows) other

ours_not_old : is_old store_schema ≡ false
unfolding Rattle.sqlite_schema.specs.Names.same_name is_meta is_person is_board is_role is_task is_link is_instance is_gone is_kept is_horizon is_history
ours_not_old = refl

ours_not_second : is_second store_schema ≡ false
unfolding Rattle.sqlite_schema.specs.Names.same_name is_meta is_person is_board is_role is_task is_link is_instance is_gone is_kept is_horizon is_history
ours_not_second = refl

second_not_old : is_old second_schema ≡ false
unfolding Rattle.sqlite_schema.specs.Names.same_name is_meta is_person is_board is_role is_task is_link is_instance is_gone is_kept is_horizon is_history
second_not_old = refl

second_not_ours : is_ours second_schema ≡ false
unfolding Rattle.sqlite_schema.specs.Names.same_name is_meta is_person is_board is_role is_task is_link is_instance is_gone is_kept is_horizon is_history
second_not_ours = refl

old_not_second : is_second old_schema ≡ false
unfolding Rattle.sqlite_schema.specs.Names.same_name is_meta is_person is_board is_role is_task is_link is_instance is_gone is_kept is_horizon is_history
old_not_second = refl

old_not_ours : is_ours old_schema ≡ false
unfolding Rattle.sqlite_schema.specs.Names.same_name is_meta is_person is_board is_role is_task is_link is_instance is_gone is_kept is_horizon is_history
old_not_ours = refl

-- the version is that of the tables which have the rows
pub rows_third : (s : State) (content : Content) (version : Version) → IsAtRest s → IsLive s → has_tables version s.now.schema ≡ true → AreRows content s.now.trees → version ≡ Third
rows_third s content Third opened live has rows = refl
rows_third s content Second opened live has rows = absurd (true≢false (sym has ∙ ap (λ x. is_second x) (opened_content s content opened live rows).schema ∙ ours_not_second))
rows_third s content First opened live has rows = absurd (true≢false (sym has ∙ ap (λ x. is_old x) (opened_content s content opened live rows).schema ∙ ours_not_old))

pub rows_second : (s : State) (content : Content) (version : Version) → IsAtRest s → IsLive s → has_tables version s.now.schema ≡ true → AreSecondRows content s.now.trees → version ≡ Second
rows_second s content Second opened live has rows = refl
rows_second s content Third opened live has rows = absurd (true≢false (sym has ∙ ap (λ x. is_ours x) (opened_second s content opened live rows).schema ∙ second_not_ours))
rows_second s content First opened live has rows = absurd (true≢false (sym has ∙ ap (λ x. is_old x) (opened_second s content opened live rows).schema ∙ second_not_old))

pub rows_first : (s : State) (content : Content) (version : Version) → IsAtRest s → IsLive s → has_tables version s.now.schema ≡ true → AreOldRows content s.now.trees → version ≡ First
rows_first s content First opened live has rows = refl
rows_first s content Second opened live has rows = absurd (true≢false (sym has ∙ ap (λ x. is_second x) (opened_old s content opened live rows).schema ∙ old_not_second))
rows_first s content Third opened live has rows = absurd (true≢false (sym has ∙ ap (λ x. is_ours x) (opened_old s content opened live rows).schema ∙ old_not_ours))

-- they are taken as a store of one of the versions
known_taken : (schema known : Schema) (metas : List MetaRow) (meta : MetaRow) (version : Version) → schema ≡ known → metas ≡ meta ∷ [] → taken known (meta ∷ []) ≡ Ok version → taken schema metas ≡ Ok version
known_taken schema known metas meta version is one known_is = ap (λ x. taken x metas) is ∙ ap (taken known) one ∙ known_is

one_taken : (s : State) (content : Content) (metas : List MetaRow) → IsAtRest s → IsLive s → AreMetas s.now metas → AreVersionRows content s.now.trees → (version : Version) × (taken s.now.schema metas ≡ Ok version)
one_taken s content metas opened live told (inl rows) =
    let schema = (opened_content s content opened live rows).schema in
    let one = one_permutation our_meta metas (told (inl schema) (our_meta ∷ []) rows.tables.meta) in
    (Third, known_taken s.now.schema store_schema metas our_meta Third schema one ours_taken)
one_taken s content metas opened live told (inr (inl rows)) =
    let schema = (opened_second s content opened live rows).schema in
    let one = one_permutation our_meta metas (told (inr (inl schema)) (our_meta ∷ []) rows.tables.meta) in
    (Second, known_taken s.now.schema second_schema metas our_meta Second schema one second_taken)
one_taken s content metas opened live told (inr (inr rows)) =
    let schema = (opened_old s content opened live rows).schema in
    let one = one_permutation old_meta metas (told (inr (inr schema)) (old_meta ∷ []) rows.tables.meta) in
    (First, known_taken s.now.schema old_schema metas old_meta First schema one old_taken)

pub never_refused : (s : State) (content : Content) (metas : List MetaRow) (fault : OpenFault) → IsAtRest s → IsLive s → AreMetas s.now metas → AreVersionRows content s.now.trees → Err fault ≡ taken s.now.schema metas → ⊥
never_refused s content metas fault opened live told rows is =
    let version = one_taken s content metas opened live told rows in
    let none : Err fault ≡ Ok version.0 = is ∙ version.1 in
    cc

-- ---- a look at the database

pub same_before : (s : State) → IsAsBefore s s
same_before s = record { clean = λ clean. clean; was_open = λ clean is_open. is_open; seen = λ clean is_open same. (refl, same); left = λ clean db may. may }

-- a transaction that is undone leaves what was before
pub undone_before : (old mid new : State) → Survives old mid (λ _. ⊥) → (HasCleanDisk mid → KeepsCommit old mid) → (HasCleanDisk new → IsRolledBack mid new) → Survives mid new (λ _. ⊥) → IsAsBefore old new
undone_before old mid new inside kept undone ended = record {
  clean = λ clean. omega (arith, inside.clean, ended.clean);
  was_open = λ clean is_open.
      let mid_clean : HasCleanDisk mid = omega (arith, ended.clean) in
      (kept mid_clean).was_open ((undone clean).was_open is_open);
  seen = λ clean is_open same.
      let mid_clean : HasCleanDisk mid = omega (arith, ended.clean) in
      let back = undone clean in
      let both = back.undone is_open in
      let committed = (kept mid_clean).committed (back.was_open is_open) in
      (both.0 ∙ committed ∙ same, both.1 ∙ committed ∙ same);
  left = λ clean db may.
      let mid_clean : HasCleanDisk mid = omega (arith, ended.clean) in
      elim (ended.crash clean db may) [
        | inl before ↦ elim (inside.crash mid_clean db before) [ inl first ↦ first | inr none ↦ absurd none ]
        | inr none ↦ absurd none
      ];
}

-- what stood stands
pub stands_again : (Seen : Database → Type 0) (Left : Trees → Type 0) (old new : State) → StandsBy Seen Left old → IsAsBefore old new → StandsBy Seen Left new
stands_again Seen Left old new stands before = record {
  seen = λ clean is_open.
      let was = stands.seen (before.clean clean) (before.was_open clean is_open) in
      let both = before.seen clean is_open was.1 in
      (subst Seen (sym both.0) was.0, both.1 ∙ sym both.0);
  left = λ clean db may. stands.left (before.clean clean) db (before.left clean db may);
}

-- ---- the row of the first table

-- the order of the rows says nothing
pub judged_same : (rows metas : List MetaRow) → IsPermutation rows metas → judged metas ≡ judged rows
judged_same [] [] same = refl
judged_same [] (m ∷ metas) same = absurd (omega (arith, length_permutation [] (m ∷ metas) same))
judged_same (r ∷ []) [] same = absurd (omega (arith, length_permutation (r ∷ []) [] same))
judged_same (r ∷ []) (m ∷ []) same =
    let is : m ≡ r = (recursion_from_All (λ x. x ≡ r) (m ∷ []) (All-permutation (λ x. x ≡ r) (r ∷ []) (m ∷ []) same (All-from_recursion (λ x. x ≡ r) (r ∷ []) (refl, tt)))).0 in
    ap (λ x. judged (x ∷ [])) is
judged_same (r ∷ []) (m ∷ n ∷ metas) same = absurd (omega (arith, length_permutation (r ∷ []) (m ∷ n ∷ metas) same))
judged_same (r ∷ s ∷ rows) [] same = absurd (omega (arith, length_permutation (r ∷ s ∷ rows) [] same))
judged_same (r ∷ s ∷ rows) (m ∷ []) same = absurd (omega (arith, length_permutation (r ∷ s ∷ rows) (m ∷ []) same))
judged_same (r ∷ s ∷ rows) (m ∷ n ∷ metas) same = refl

pub taken_same : (schema : Schema) (rows metas : List MetaRow) → IsPermutation rows metas → taken schema metas ≡ taken schema rows
taken_same schema rows metas same = ap (if_there schema) (judged_same rows metas same)

-- ---- the answer, by the tables and the rows

-- a store of another version isn't taken
pub others_refused : (schema : Schema) (version : ℕ) (taken_as : Version) → version ≢ 2 → schema ≡ store_schema
    → taken schema (record { kind = codes "taskboard"; version = version } ∷ []) ≡ Ok taken_as → ⊥
others_refused schema version taken_as other same is = go (version == 2) refl (version == 1) (rw same at is)
  where
    go : (second : Bool) → (version == 2) ≡ second → (first : Bool)
        → if_there store_schema (cond second (Ok Two) (cond first (Ok One) (Err WrongVersion))) ≡ Ok taken_as → ⊥
    go true two first is = other (eqb-true version 2 two)
    go false two true is = absurd (let wrong : Err NotOurs ≡ Ok taken_as = rw ours_not_old at is in cc)
    go false two false is = absurd (cc)

pub refused_taken : (schema : Schema) (metas : List MetaRow) (fault : OpenFault) → Err fault ≡ judged metas → Err fault ≡ taken schema metas
refused_taken schema metas fault is = ap (if_there schema) is

chosen_tables : (number : Number) (first second third : Bool) (version : Version) → chosen number first second third ≡ Ok version → by_version version first second third ≡ true
chosen_tables One true second third First is = refl
chosen_tables One true second third Second is = absurd (cc)
chosen_tables One true second third Third is = absurd (cc)
chosen_tables One false second third version is = absurd (cc)
chosen_tables Two first second true Third is = refl
chosen_tables Two first second true First is = absurd (cc)
chosen_tables Two first second true Second is = absurd (cc)
chosen_tables Two first true false Second is = refl
chosen_tables Two first true false First is = absurd (cc)
chosen_tables Two first true false Third is = absurd (cc)
chosen_tables Two first false false version is = absurd (cc)

-- a store that is taken has the tables of its version
pub taken_tables : (schema : Schema) (metas : List MetaRow) (version : Version) → taken schema metas ≡ Ok version → has_tables version schema ≡ true
taken_tables schema metas version = go (judged metas)
  where
    go : (said : Result Number OpenFault) → if_there schema said ≡ Ok version → has_tables version schema ≡ true
    go (Ok number) is = chosen_tables number (is_old schema) (is_second schema) (is_ours schema) version is
    go (Err fault) is = absurd (cc)

-- ---- what holds of a call that succeeds

pub on_ok : {A E : Type 0} (P : A → Type 0) (result : Result A E) → ((value : A) → result ≡ Ok value → P value) → IfOk result P
on_ok P (Ok value) step = step value refl
on_ok P (Err e) step = tt

-- ---- why the store is told to have failed

pub told_so : (fault : StoreFault) (told : OpenFault) → (fault ≡ StoreMemory → told ≡ Memory) → told ≡ Store → fault ≡ StoreFailed
told_so StoreMemory told memory is = absurd (let other : told ≡ Memory = memory refl in cc)
told_so StoreFailed told memory is = refl

-- the rows of the first table don't say it
pub never_judged : (metas : List MetaRow) → judged metas ≡ Err Store → ⊥
never_judged [] is = absurd (cc)
never_judged (meta ∷ []) is = go (bytes_eq meta.kind (codes "taskboard")) (meta.version == 2) (meta.version == 1) is
  where
    go : (kind second first : Bool) → ◌≡◌ {A = Result Number OpenFault} (cond kind (cond second (Ok Two) (cond first (Ok One) (Err WrongVersion))) (Err NotOurs)) (Err Store) → ⊥
    go true true first is = absurd (cc)
    go true false true is = absurd (cc)
    go true false false is = absurd (cc)
    go false second first is = absurd (cc)
never_judged (a ∷ b ∷ metas) is = absurd (cc)

never_chosen : (number : Number) (first second third : Bool) → chosen number first second third ≡ Err Store → ⊥
never_chosen One true second third is = absurd (cc)
never_chosen One false second third is = absurd (cc)
never_chosen Two first second true is = absurd (cc)
never_chosen Two first true false is = absurd (cc)
never_chosen Two first false false is = absurd (cc)

pub never_taken : (schema : Schema) (metas : List MetaRow) → taken schema metas ≡ Err Store → ⊥
never_taken schema metas is = go (judged metas) refl is
  where
    go : (said : Result Number OpenFault) → judged metas ≡ said → if_there schema said ≡ Err Store → ⊥
    go (Ok number) same is = never_chosen number (is_old schema) (is_second schema) (is_ours schema) is
    go (Err fault) same is = never_judged metas (same ∙ ap Err (err_of is))
      where
        err_of : ◌≡◌ {A = Result Version OpenFault} (Err fault) (Err Store) → fault ≡ Store
        err_of is = cc
