-- What changes make of a board at hand is what they make of it in its world.
use Rattle.std.proofs.Common.{◌+◌, ◌<◌, take, length, get_or, ◌≡◌, ◌==◌, ℕ, true, false, true≢false, if◌then◌else◌, List, [], ◌∷◌, ◌++◌, Option, Some, None, find, Contains, nat_eq, refl, sym, ap, ◌∙◌, subst, inl, inr}
use Rattle.std.specs.Map.{keys_of, lookup, remove_entry}
use Rattle.std.specs.List.{IsDistinct}
use Rattle.std.proofs.lemmas.Bool.{cases_Bool, eqb-true, eq-eqb}
use Rattle.std.proofs.lemmas.List.Folds.{find-append}
use Rattle.std.proofs.lemmas.List.{take_more}
use Rattle.tb_board.proofs.Worlds.{changed-append}
use Rattle.tb_board.specs.declared.board.Board.{Board}
use Rattle.tb_board.specs.declared.change.Change.{Change}
use Rattle.tb_board.specs.declared.change.Change.TheVariants.{PutTask, AddPerson, SetKey, AddBoard, SetTitle, SetRole, SetGone, TakeGone, SetAhead}
use Rattle.tb_board.specs.declared.world.World.{World}
use Rattle.tb_board.specs.World.{find_board, has_number}
use Rattle.tb_board.specs.Changing.{change_board, changed, changed_by, changed_on, with_task_at, with_ahead, with_gone, with_title, without_gone}
use Rattle.lru.specs.LruCache.{LruCache, lru_cache}
use Rattle.tb_cache.specs.BoardCache.{AreOf}
use Rattle.tb_cache.specs.Following.{touched}
use Rattle.tb_cache.proofs.Entries.{apart_removed}
use Rattle.lru.proofs.CallerLemmas.{Contains-remove_entry}
use Rattle.std.proofs.lemmas.Map.Views.{Contains-from_lookup}

flipped : (n m x : ℕ) → (x == m) ≡ true → (x == n) ≡ false → (n == m) ≡ false
flipped n m x also past =
    elim (cases_Bool (n == m)) [
      | inl same ↦ absurd (true≢false (sym (eq-eqb x n (eqb-true x m also ∙ sym (eqb-true n m same))) ∙ past))
      | inr apart ↦ apart
    ]

-- a change of board m, which keeps its number, as board n sees it
found_changed : (n m : ℕ) (f : Board → Board) (bs : List Board) (b : Board) → ((x : Board) → (f x).number ≡ x.number) → find (has_number n) bs ≡ Some b
    → find (has_number n) (change_board m f bs) ≡ Some (if n == m then f b else b)
found_changed n m f [] b keeps found = absurd (cc)
found_changed n m f (x ∷ xs) b keeps found =
    elim (cases_Bool (has_number n x)) [
      | inl here ↦
          let first : Some x ≡ Some b = rw here at found in
          let is : x ≡ b = cc in
          elim (cases_Bool (has_number m x)) [
            | inl also ↦
                let same : n ≡ m = sym (eqb-true x.number n here) ∙ eqb-true x.number m also in
                let still : has_number n (f x) ≡ true = rw (keeps x) here in
                let equal : (n == m) ≡ true = eq-eqb n m same in
                rw (also, still, equal) (ap (λ y. Some (f y)) is)
            | inr other ↦
                let apart : (n == m) ≡ false = rw (sym (eqb-true x.number n here)) other in
                rw (other, here, apart) first
          ]
      | inr past ↦
          let later : find (has_number n) xs ≡ Some b = rw past at found in
          elim (cases_Bool (has_number m x)) [
            | inl also ↦
                let still : has_number n (f x) ≡ false = rw (keeps x) past in
                let apart : (n == m) ≡ false = flipped n m x.number also past in
                rw (also, still, apart) later
            | inr other ↦ rw (other, past) (found_changed n m f xs b keeps later)
          ]
    ]

abbrev pub at : ℕ → Option ℕ → Board → Board → Board
at n None b later = b
at n (Some m) b later = if n == m then later else b

-- board n in the world after a change
pub found_after : (n : ℕ) (w : World) (c : Change) (b : Board) → find_board w n ≡ Some b → find_board (changed_by w c) n ≡ Some (at n (touched c) b (changed_on b c))
found_after n w (PutTask m place t) b found = found_changed n m (with_task_at place t) w.boards b (λ x. refl) found
found_after n w (AddPerson name key) b found = found
found_after n w (SetKey name key) b found = found
found_after n w (AddBoard m title) b found = find-append (has_number n) w.boards _ ∙ rw found refl
found_after n w (SetTitle m title) b found = found_changed n m (with_title title) w.boards b (λ x. refl) found
found_after n w (SetRole m person role) b found = found
found_after n w (SetGone m g) b found = found_changed n m (with_gone g) w.boards b (λ x. refl) found
found_after n w (TakeGone m id k) b found = found_changed n m (without_gone id k) w.boards b (λ x. refl) found
found_after n w (SetAhead m ahead) b found = found_changed n m (with_ahead ahead) w.boards b (λ x. refl) found

-- a change that touches no board at hand
pub of_untouched : (w : World) (c : Change) (es : List (ℕ × Board)) → touched c ≡ None → AreOf w es → AreOf (changed_by w c) es
of_untouched w c es none are e there = found_after e.0 w c e.1 (are e there) ∙ ap (λ o. Some (at e.0 o e.1 (changed_on e.1 c))) none

-- the changed board
pub found_touched : (w : World) (c : Change) (n : ℕ) (b : Board) → touched c ≡ Some n → find_board w n ≡ Some b → find_board (changed_by w c) n ≡ Some (changed_on b c)
found_touched w c n b one found = found_after n w c b found ∙ ap (λ o. Some (at n o b (changed_on b c))) one ∙ ap (λ t. Some (if t then changed_on b c else b)) (eq-eqb n n refl)

-- the others
pub of_others : (w : World) (c : Change) (n : ℕ) (es : List (ℕ × Board)) → touched c ≡ Some n → ((e : ℕ × Board) → Contains es e → (e.0 == n) ≡ false) → AreOf w es → AreOf (changed_by w c) es
of_others w c n es one apart are e there =
    found_after e.0 w c e.1 (are e there) ∙ ap (λ o. Some (at e.0 o e.1 (changed_on e.1 c))) one ∙ ap (λ t. Some (if t then changed_on e.1 c else e.1)) (apart e there)

pub changed_more : (w : World) (cs : List Change) (i : ℕ) (c : Change) → i < length cs → c ≡ get_or cs i c → changed w (take (i + 1) cs) ≡ changed_by (changed w (take i cs)) c
changed_more w cs i c within is = ap (changed w) (take_more cs i c within ∙ ap (λ x. take i cs ++ x ∷ []) (sym is)) ∙ changed-append w (take i cs) (c ∷ [])

-- what is left without the changed board
pub of_left : (w : World) (c : Change) (n : ℕ) (old new : LruCache ℕ Board) → touched c ≡ Some n → new ≡ lru_cache (remove_entry (nat_eq n) old.entries) old.cap → IsDistinct nat_eq (keys_of old.entries)
    → AreOf w old.entries → AreOf (changed_by w c) new.entries
of_left w c n old new one left distinct are =
    subst (λ (k : LruCache ℕ Board). AreOf (changed_by w c) k.entries) (sym left)
    (of_others w c n (remove_entry (nat_eq n) old.entries) one (apart_removed n old.entries distinct) (λ e there. are e (Contains-remove_entry (nat_eq n) old.entries e there)))

-- the board that was taken out, changed
pub found_in : (w : World) (c : Change) (n : ℕ) (old : LruCache ℕ Board) (b later : Board) → touched c ≡ Some n → Some b ≡ lookup (nat_eq n) old.entries → later ≡ changed_on b c
    → AreOf w old.entries → find_board (changed_by w c) n ≡ Some later
found_in w c n old b later one taken made are =
    let found : find_board w n ≡ Some b = are (n, b) (Contains-from_lookup eqb-true n b old.entries (sym taken)) in
    found_touched w c n b one found ∙ ap Some (sym made)
