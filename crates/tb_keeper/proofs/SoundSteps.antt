-- What is found of a board's entries between looks that change nothing.
use Rattle.std.proofs.Common.{◌≡◌, ◌∙◌, ◌+◌, ◌<◌, ◌≤◌, ℕ, min, Bool, true, false, nat_le, true≢false, List, [], length, filter, get_or, take, inl, inr, refl, sym, arith}
use Rattle.std.specs.Prelude.{◌↔◌, ◌≢◌, IsTrue}
use Rattle.std.specs.List.{list_any, AllByRecursion}
use Rattle.std.proofs.lemmas.Bool.{cases_Bool}
use Rattle.std.proofs.lemmas.Bool.Decides.{nat_tests}
use Rattle.std.proofs.lemmas.List.{take_all}
use Rattle.sqlite.specs.State.{State as Database}
use Rattle.tb_sql.specs.Changes.{is_kept, is_person}
use Rattle.tb_sql.specs.Opening.{IsAsBefore}
use Rattle.tb_sql_tables.specs.declared.rows.HistoryRow.{HistoryRow}
use Rattle.tb_sql_tables.specs.Content.{Content}
use Rattle.tb_sql_tables.specs.Found.{AreFound}
use Rattle.tb_sql_pages.specs.Entries.{is_entry_between, IsEntryBefore}
use Rattle.tb_sql_pages.specs.Last.{AreNumberedFrom}
use Rattle.tb_lookup.specs.Reopening.{OfContent}
use Rattle.tb_lookup.proofs.Standing.{stood}
use Rattle.tb_keeper.specs.SoundHistories.{IsReadable, IsSoundEntry, IsSoundHistory}
use Rattle.tb_keeper.proofs.SoundHistories.{all_at, all_more, all_sound, none_at_zero, none_past, number_in, step_passes, step_sound, up_to_next, IsSoundUpTo}

no : {A : Type 0} → IsTrue false → A
no so = absurd (true≢false (sym so))

-- ---- one entry

-- an entry that can be read, and whose person is there, is sound where its kept reply is there
pub entry_tells : (c : Content) (tasks : ℕ) (row : HistoryRow) → IsReadable tasks row → true ≡ list_any (is_person row.person) c.people → (there : Bool) → IsTrue there ↔ (filter (is_kept row.person row.call) c.kept ≢ [])
    → IsTrue there ↔ IsSoundEntry c tasks row
entry_tells c tasks row readable person there tells = (λ so. record { readable = readable; person = sym person; kept = tells.0 so }, λ sound. tells.1 sound.kept)

-- ---- entries one after the other

module _ (start before after : Database) (tasks : ℕ) (rows : List HistoryRow) (i : ℕ) (row : HistoryRow) (sound : Bool) (same : IsAsBefore start before) (one : IsAsBefore before after) (within : i < length rows) (here : row ≡ get_or rows i row)
    (tells : OfContent before after (λ c. IsTrue sound ↔ IsSoundEntry c tasks row)) where
  pub entry_kept : sound ≡ true → OfContent start before (λ c. AllByRecursion (IsSoundEntry c tasks) (take i rows)) → OfContent start after (λ c. AllByRecursion (IsSoundEntry c tasks) (take (i + 1) rows))
  entry_kept is each clean c stands = all_more rows i row within here (IsSoundEntry c tasks) (each (one.clean clean) c stands) ((tells clean c (stood c start before stands same)).0 is)

  pub entry_unsound : (n : ℕ) → sound ≡ false → OfContent start after (λ c. IsTrue false ↔ AreNumberedFrom number_in n rows × AllByRecursion (IsSoundEntry c tasks) rows)
  entry_unsound n not clean c stands = (
    λ so. no so,
    λ both. absurd (true≢false (sym ((tells clean c (stood c start before stands same)).1 (all_at rows i row within here (IsSoundEntry c tasks) both.1)) ∙ not)),
  )

pub entries_sound : (start now : Database) (tasks : ℕ) (rows : List HistoryRow) (i n : ℕ) → length rows ≤ i → AreNumberedFrom number_in n rows → OfContent start now (λ c. AllByRecursion (IsSoundEntry c tasks) (take i rows))
    → OfContent start now (λ c. IsTrue true ↔ AreNumberedFrom number_in n rows × AllByRecursion (IsSoundEntry c tasks) rows)
entries_sound start now tasks rows i n end numbered each clean c stands = (λ so. (numbered, rw (← (take_all i rows end)) (each clean c stands)), λ both. refl)

-- ---- one step after the other

module _ (start before mid after : Database) (board tasks count last : ℕ) (rows : List HistoryRow) (sound : Bool) (same : IsAsBefore start before) (one : IsAsBefore before mid) (two : IsAsBefore mid after)
    (few : count ≤ 4294967295) (ends : last ≡ min (count + 1000) 4294967295) (found : OfContent before mid (λ c. AreFound IsEntryBefore (filter (is_entry_between board (count + 1) last) c.history) rows))
    (tells : OfContent mid after (λ c. IsTrue sound ↔ AreNumberedFrom number_in (count + 1) rows × AllByRecursion (IsSoundEntry c tasks) rows)) where
  from : count ≤ last
  from = elim (cases_Bool (nat_le (count + 1000) 4294967295)) [ inl whole ↦ grind (arith, nat_tests) | inr cut ↦ grind (arith, nat_tests) ]

  within : last ≤ 4294967295
  within = elim (cases_Bool (nat_le (count + 1000) 4294967295)) [ inl whole ↦ grind (arith, nat_tests) | inr cut ↦ grind (arith, nat_tests) ]

  pub step_unsound : sound ≡ false → OfContent start after (λ c. IsTrue false ↔ IsSoundHistory c board tasks)
  step_unsound not clean c stands =
      let at_before = stood c start before stands same in (
        λ so. no so,
        λ history. absurd (true≢false (sym ((tells clean c (stood c before mid at_before one)).1 (step_passes c board tasks history count last within rows (found (two.clean clean) c at_before))) ∙ not)),
      )

  module _ (full : Bool) (filled : IsTrue full ↔ (length rows ≡ 1000)) where
    pub step_kept : sound ≡ true → full ≡ true → OfContent start before (λ c. IsSoundUpTo c board tasks count) → OfContent start after (λ c. IsSoundUpTo c board tasks (count + 1000))
    step_kept is whole up clean c stands =
        let clean_mid = two.clean clean in
        let at_before = stood c start before stands same in
        let passed = (tells clean c (stood c before mid at_before one)).0 is in
        up_to_next c board tasks count last (up (one.clean clean_mid) c stands) from few rows (found clean_mid c at_before) passed.0 passed.1 ends (filled.0 whole)

    pub step_ends : (end : Database) → IsAsBefore after end → sound ≡ true → full ≡ false → OfContent start before (λ c. IsSoundUpTo c board tasks count) → (none : Bool)
        → OfContent after end (λ c. IsTrue none ↔ (filter (is_entry_between board 0 0) c.history ≡ []) × (filter (is_entry_between board (last + 1) 4294967295) c.history ≡ [])) → OfContent start end (λ c. IsTrue none ↔ IsSoundHistory c board tasks)
    step_ends end three is cut up none others clean c stands =
        let clean_after = three.clean clean in
        let clean_mid = two.clean clean_after in
        let at_before = stood c start before stands same in
        let at_mid = stood c before mid at_before one in
        let passed = (tells clean_after c at_mid).0 is in
        let there = found clean_mid c at_before in
        let part = step_sound c board tasks count last (up (one.clean clean_mid) c stands) from few rows there passed.0 passed.1 in
        let rest = others clean c (stood c mid after at_mid two) in (
          λ so. all_sound c board tasks last within part (rest.0 so).0 (rest.0 so).1,
          λ history. rest.1 (none_at_zero c board tasks history, none_past c board tasks history count last ends few rows there (λ all. true≢false (sym (filled.1 all) ∙ cut))),
        )
