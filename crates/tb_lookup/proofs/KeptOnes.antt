-- One row is kept under a name.
use Rattle.std.proofs.Common.{◌≡◌, ◌∙◌, ◌⊎◌, inl, inr, ◌==◌, ℕ, Bool, true, false, ◌&&◌, eqb, arith, true≢false, List, [], ◌∷◌, map, filter, Option, Some, None, option_map, refl, sym, ap, ap₂}
use Rattle.std.specs.List.{AllByRecursion}
use Rattle.std.specs.Option.{unwrap_or}
use Rattle.std.specs.Ordering.{eq_by_cmp}
use Rattle.std.specs.Cmp.{eq_by_cmp_equiv}
use Rattle.std.specs.FinMap.{entries, entries_sorted, find, get-entries}
use Rattle.std.specs.Str.{bytes_eq}
use Rattle.std.proofs.lemmas.Bool.{cases_Bool}
use Rattle.std.proofs.lemmas.Bool.Decides.{nat_tests}
use Rattle.std.proofs.lemmas.Slice.Eq.{bytes_eq-Decides}
use Rattle.tb_board.specs.declared.world.World.{World}
use Rattle.tb_board.specs.World.{number_of}
use Rattle.tb_calls.specs.declared.call.KeptReply.{KeptReply}
use Rattle.tb_calls.specs.Call.{CallName, State, name_cmp}
use Rattle.tb_calls.proofs.Names.{names_total, ties}
use Rattle.tb_sql.specs.Changes.{is_kept}
use Rattle.tb_sql_tables.specs.Content.{Content}
use Rattle.tb_sql_tables.specs.Found.{IsOneOf}
use Rattle.tb_sql_tables.specs.declared.rows.KeptRow.{KeptRow}
use Rattle.tb_lookup.proofs.Entries.{sorted_apart, AreApart}
use Rattle.tb_lookup.proofs.Numbers.{name_at_number, name_of_number, name_at}
use Rattle.tb_lookup.specs.Stored.{kept_row, reply_in, AreRowsOf, IsKnown}
use Rattle.tb_lookup.specs.Replies.{IsReplyFound}
use Rattle.tb_rows.proofs.OneOf.{none_found, one_found}

abbrev Entry : Type 0
Entry = CallName × KeptReply

both_true : (a b : Bool) → (a && b) ≡ true → (a ≡ true) × (b ≡ true)
both_true true b h = (refl, h)
both_true false b h = absurd (true≢false (sym h))

same_tests : (a b : Bool) → (a ≡ true → b ≡ true) → (b ≡ true → a ≡ true) → a ≡ b
same_tests true b to from = sym (to refl)
same_tests false true to from = from refl
same_tests false false to from = refl

module _ (w : World) (name : List ℕ) (person id : ℕ) (number : number_of w name ≡ Some person) where
  -- the entry has the name
  abbrev Has : Entry → Bool
  Has e = eq_by_cmp name_cmp (name, id) e.0

  number_at : (other : List ℕ) → name ≡ other → unwrap_or (number_of w other) 0 ≡ person
  number_at other same = ap (λ n. unwrap_or (number_of w n) 0) (sym same) ∙ ap (λ o. unwrap_or o 0) number

  name_there : (e : Entry) → IsKnown w e → unwrap_or (number_of w e.0.0) 0 ≡ person → name ≡ e.0.0
  name_there e known at = sym (name_at_number w name person number) ∙ ap (name_at w.people) (sym at) ∙ name_of_number w e.0.0 known

  -- the row has the key exactly where the entry has the name
  same_key : (e : Entry) → IsKnown w e → is_kept person id (kept_row w e) ≡ Has e
  same_key e known = same_tests _ _ to from
    where
      to : is_kept person id (kept_row w e) ≡ true → Has e ≡ true
      to h =
          let two = both_true (unwrap_or (number_of w e.0.0) 0 == person) (e.0.1 == id) h in
          let at : unwrap_or (number_of w e.0.0) 0 ≡ person = let one = two.0 in grind (arith, nat_tests) in
          let also : eqb id e.0.1 ≡ true = let one = two.1 in grind (arith, nat_tests) in
          ties name e.0.0 id e.0.1 ∙ ap₂ ◌&&◌ ((bytes_eq-Decides name e.0.0).1 (name_there e known at)) also

      from : Has e ≡ true → is_kept person id (kept_row w e) ≡ true
      from h =
          let two = both_true (bytes_eq name e.0.0) (eqb id e.0.1) (sym (ties name e.0.0 id e.0.1) ∙ h) in
          let at = number_at e.0.0 ((bytes_eq-Decides name e.0.0).0 two.0) in
          let first : (unwrap_or (number_of w e.0.0) 0 == person) ≡ true = grind (arith, nat_tests) in
          let second : (e.0.1 == id) ≡ true = let one = two.1 in grind (arith, nat_tests) in
          ap₂ ◌&&◌ first second

  none_left : (e : Entry) (es : List Entry) → Has e ≡ true → AllByRecursion (λ (d : Entry). eq_by_cmp name_cmp e.0 d.0 ≡ false) es → AllByRecursion (IsKnown w) es → filter (is_kept person id) (map (kept_row w) es) ≡ []
  none_left e [] has apart known = refl
  none_left e (d ∷ es) has apart known = elim (cases_Bool (Has d)) [
    | inl also ↦ absurd (true≢false (sym also ∙ (eq_by_cmp_equiv names_total).congr (name, id) e.0 d.0 has ∙ apart.0))
    | inr other ↦ rw (same_key d known.0 ∙ other) (none_left e es has apart.1 known.1)
  ]

  record IsNotKept (es : List Entry) : Type 0 where
    none : filter (is_kept person id) (map (kept_row w) es) ≡ []
    nothing : find name_cmp (name, id) es ≡ None

  record IsKeptBy (es : List Entry) : Type 0 where
    entry : Entry
    one : filter (is_kept person id) (map (kept_row w) es) ≡ kept_row w entry ∷ []
    thing : find name_cmp (name, id) es ≡ Some entry.1

  kept_under : (es : List Entry) → AreApart name_cmp names_total es → AllByRecursion (IsKnown w) es → IsNotKept es ⊎ IsKeptBy es
  kept_under [] apart known = inl (record { none = refl; nothing = refl })
  kept_under (e ∷ es) apart known = elim (cases_Bool (Has e)) [
    | inl here ↦
        inr (record {
          entry = e;
          one = rw (same_key e known.0 ∙ here) (ap (λ l. kept_row w e ∷ l) (none_left e es here apart.0 known.1));
          thing = rw here refl;
        })
    | inr other ↦ elim (kept_under es apart.1 known.1) [
      | inl none ↦ inl (record { none = rw (same_key e known.0 ∙ other) none.none; nothing = rw other none.nothing })
      | inr one ↦ inr (record { entry = one.entry; one = rw (same_key e known.0 ∙ other) one.one; thing = rw other one.thing })
    ]
  ]

-- what is found under a key is what is kept under the name
pub reply_found : (s : State) (content : Content) → AreRowsOf s content → (person id : ℕ) (found : Option KeptRow) → IsOneOf (filter (is_kept person id) content.kept) found → IsReplyFound s person id (option_map reply_in found)
reply_found s content of_s person id found is name number =
    elim (kept_under s.world name person id number (entries s.kept) (sorted_apart name_cmp names_total (entries s.kept) (entries_sorted s.kept)) of_s.people) [
      | inl none ↦ ap (option_map reply_in) (none_found (is_kept person id) content.kept _ of_s.same.kept found none.none is) ∙ sym (get-entries s.kept (name, id) ∙ none.nothing)
      | inr one ↦ ap (option_map reply_in) (one_found (is_kept person id) content.kept _ of_s.same.kept found _ one.one is) ∙ sym (get-entries s.kept (name, id) ∙ one.thing)
    ]
