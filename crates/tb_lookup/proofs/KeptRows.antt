-- The rows of the kept replies of a state.
use Rattle.std.proofs.Common.{◌≡◌, List, [], ◌∷◌, map, None, refl, ap₂, subst, IsPermutation}
use Rattle.std.specs.Prelude.{IsSome, List}
use Rattle.std.specs.List.{AllByRecursion}
use Rattle.std.specs.FinMap.{FinMap, entries, get, insert}
use Rattle.std.proofs.lemmas.List.Sorted.{IsPermutation-cons, IsPermutation-map, IsPermutation-sym, IsPermutation-trans, All-permutation}
use Rattle.std.proofs.lemmas.List.Elements.{All-from_recursion, recursion_from_All}
use Rattle.tb_board.specs.declared.world.Person.{Person}
use Rattle.tb_board.specs.declared.world.World.{World}
use Rattle.tb_board.specs.Extends.{ExtendsPerson, IsFrontOf}
use Rattle.tb_board.specs.World.{number_of}
use Rattle.tb_calls.specs.declared.call.KeptReply.{KeptReply}
use Rattle.tb_calls.specs.Call.{CallName, name_cmp}
use Rattle.tb_calls.proofs.Names.{names_exact, names_total}
use Rattle.tb_sql_tables.specs.declared.rows.KeptRow.{KeptRow}
use Rattle.tb_lookup.specs.Stored.{kept_row, IsKnown, reply_in}
use Rattle.tb_lookup.proofs.Entries.{insert_permutes, same_entries}
use Rattle.tb_lookup.proofs.Numbers.{known_stays, name_of_number, number_stays, name_at}

-- that, and its name
abbrev pub entry_of : List Person → KeptRow → CallName × KeptReply
entry_of people row = ((name_at people row.person, row.id), reply_in row)

-- an entry is read back from its row
entry_back : (w : World) (e : CallName × KeptReply) → IsKnown w e → entry_of w.people (kept_row w e) ≡ e
entry_back w e known = λ i. ((name_of_number w e.0.0 known i, e.0.1), e.1)

all_back : (w : World) (es : List (CallName × KeptReply)) → AllByRecursion (IsKnown w) es → map (entry_of w.people) (map (kept_row w) es) ≡ es
all_back w [] known = refl
all_back w (e ∷ es) known = ap₂ ◌∷◌ (entry_back w e known.0) (all_back w es known.1)

-- rows of replies tell the entries
pub entries_of_rows : (w : World) (es : List (CallName × KeptReply)) (rows : List KeptRow) → AllByRecursion (IsKnown w) es → IsPermutation rows (map (kept_row w) es) → IsPermutation es (map (entry_of w.people) rows)
entries_of_rows w es rows known same =
    subst (λ l. IsPermutation l (map (entry_of w.people) rows)) (all_back w es known) (IsPermutation-map (entry_of w.people) _ _ (IsPermutation-sym _ _ same))

-- two maps with the same rows are one
pub same_replies : (w : World) (m n : FinMap name_cmp KeptReply) → AllByRecursion (IsKnown w) (entries m) → AllByRecursion (IsKnown w) (entries n)
    → IsPermutation (map (kept_row w) (entries m)) (map (kept_row w) (entries n)) → m ≡ n
same_replies w m n known_m known_n same =
    same_entries name_cmp names_total names_exact m n (subst (IsPermutation (entries m)) (all_back w (entries n) known_n) (entries_of_rows w (entries m) _ known_m (IsPermutation-sym _ _ same)))

module _ (w later : World) (front : IsFrontOf ExtendsPerson w.people later.people) where
  -- a row stays where all people keep their names and places
  row_stays : (e : CallName × KeptReply) → IsKnown w e → kept_row later e ≡ kept_row w e
  row_stays e known = λ i.
      let row : KeptRow = record { person = number_stays w later e.0.0 front known i; id = e.0.1; content = e.1.content; number = e.1.reply.number; status = e.1.reply.status; body = e.1.reply.body } in
      row

  rows_stay : (es : List (CallName × KeptReply)) → AllByRecursion (IsKnown w) es → map (kept_row later) es ≡ map (kept_row w) es
  rows_stay [] known = refl
  rows_stay (e ∷ es) known = ap₂ ◌∷◌ (row_stays e known.0) (rows_stay es known.1)

  all_stay_known : (es : List (CallName × KeptReply)) → AllByRecursion (IsKnown w) es → AllByRecursion (IsKnown later) es
  all_stay_known [] known = tt
  all_stay_known (e ∷ es) known = (known_stays w later e.0.0 front known.0, all_stay_known es known.1)

  module _ (m : FinMap name_cmp KeptReply) (name : CallName) (kept : KeptReply) (known : AllByRecursion (IsKnown w) (entries m)) (caller : IsSome (number_of w name.0)) (new : get m name ≡ None) where
    -- each name is still that of a person
    pub with_reply_known : AllByRecursion (IsKnown later) (entries (insert m name kept))
    with_reply_known =
        let all : AllByRecursion (IsKnown later) ((name, kept) ∷ entries m) = (known_stays w later name.0 front caller, all_stay_known (entries m) known) in
        recursion_from_All (IsKnown later) _ (All-permutation (IsKnown later) ((name, kept) ∷ entries m) _ (insert_permutes name_cmp names_total m name kept new) (All-from_recursion (IsKnown later) ((name, kept) ∷ entries m) all))

    -- one row more
    pub with_reply_rows : (rows : List KeptRow) → IsPermutation rows (map (kept_row w) (entries m)) → IsPermutation (kept_row w (name, kept) ∷ rows) (map (kept_row later) (entries (insert m name kept)))
    with_reply_rows rows same =
        IsPermutation-trans _ _ _ (IsPermutation-cons (kept_row w (name, kept)) _ _ same)
        (subst (λ l. IsPermutation l (map (kept_row later) (entries (insert m name kept)))) (rows_stay ((name, kept) ∷ entries m) (caller, known))
        (IsPermutation-map (kept_row later) _ _ (insert_permutes name_cmp names_total m name kept new)))
