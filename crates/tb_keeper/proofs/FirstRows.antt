-- The rows of the opening state.
use Rattle.std.proofs.Common.{◌≡◌, ◌∙◌, ℕ, true, List, [], ◌∷◌, map, length, codes, refl, sym, ap, subst, IsPermutation, arith}
use Rattle.std.proofs.lemmas.List.Sorted.{IsPermutation-refl}
use Rattle.std.specs.List.{AllByRecursion, flat_map}
use Rattle.std.specs.Ordering.{nat_cmp}
use Rattle.std.specs.FinMap.{empty, entries, len-empty, len-entries}
use Rattle.tb_board.specs.Names.{is_key, is_name, is_title}
use Rattle.tb_board.specs.World.{opening as opening_world}
use Rattle.tb_core.proofs.Opening.{opens}
use Rattle.tb_calls.specs.declared.call.KeptReply.{KeptReply}
use Rattle.tb_calls.specs.Call.{name_cmp, opening}
use Rattle.tb_history.specs.declared.entry.Entry.{Entry}
use Rattle.tb_rows.specs.Laws.{AreApart}
use Rattle.tb_rows.specs.Rows.{world_rows, HaveSameRows, IsSameContent}
use Rattle.tb_sql.specs.Migrating.{without_horizon}
use Rattle.tb_sql_tables.specs.Content.{Content}
use Rattle.tb_lookup.specs.Stored.{board_history, kept_row, state_rows, AreOldRowsOf, AreRowsOf, IsHistoryOf, IsKnown}

none : {X : Type 0} (es : List X) → length es ≡ 0 → es ≡ []
none [] e = refl
none (x ∷ es) e = absurd (omega arith)

no_replies : entries (empty {X = KeptReply} {R = name_cmp}) ≡ []
no_replies = none _ (sym (len-entries (empty {X = KeptReply} {R = name_cmp})) ∙ len-empty name_cmp KeptReply)

no_histories : entries (empty {X = List Entry} {R = nat_cmp}) ≡ []
no_histories = none _ (sym (len-entries (empty {X = List Entry} {R = nat_cmp})) ∙ len-empty nat_cmp (List Entry))

board_title : is_title (codes "board") ≡ true
unfolding is_title
board_title = refl

pub first_rows : AreApart → (name key : List ℕ) (content : Content) → is_name name ≡ true → is_key key ≡ true → content ≡ world_rows (opening_world name key) → AreRowsOf (opening name key) content
first_rows apart name key content named keyed same = record {
  apart = apart;
  good = opens name key;
  form = record { people = (record { name = named; key = keyed }, tt); boards = (record { title = board_title; tasks = tt; gone = tt; ahead = refl }, tt) };
  people = subst (AllByRecursion (IsKnown (opening_world name key))) (sym no_replies) tt;
  histories = subst (AllByRecursion (IsHistoryOf (opening name key))) (sym no_histories) tt;
  same = subst (λ (c : Content). IsSameContent c (state_rows (opening name key))) (sym same) rows_of_first;
}
  where
    tables : HaveSameRows (world_rows (opening_world name key)) (state_rows (opening name key))
    tables = record {
      people = IsPermutation-refl _;
      boards = IsPermutation-refl _;
      roles = IsPermutation-refl _;
      tasks = IsPermutation-refl _;
      links = IsPermutation-refl _;
      instances = IsPermutation-refl _;
      gone = IsPermutation-refl _;
      horizon = IsPermutation-refl _;
    }

    rows_of_first : IsSameContent (world_rows (opening_world name key)) (state_rows (opening name key))
    rows_of_first = record {
      tables = tables;
      kept = subst (λ l. IsPermutation [] (map (kept_row (opening_world name key)) l)) (sym no_replies) (IsPermutation-refl []);
      history = subst (λ l. IsPermutation [] (flat_map (board_history (opening_world name key)) l)) (sym no_histories) (IsPermutation-refl []);
    }

-- the same of the rows without how far ahead the board looks
pub first_old_rows : AreApart → (name key : List ℕ) (content : Content) → is_name name ≡ true → is_key key ≡ true → content ≡ without_horizon (world_rows (opening_world name key)) → AreOldRowsOf (opening name key) content
first_old_rows apart name key content named keyed same = record {
  one_ahead = (refl, tt);
  horizon = (world_rows (opening_world name key)).horizon;
  rows = first_rows apart name key _ named keyed (ap (λ (c : Content). let whole : Content = record c { horizon = (world_rows (opening_world name key)).horizon; history = [] } in whole) same);
}
