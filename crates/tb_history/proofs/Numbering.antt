-- Entries are numbered in their order, and new ones are put behind them.
use Rattle.std.proofs.Common.{◌≡◌, ℕ, zero, suc, ◌+◌, ◌<◌, ◌==◌, Bool, true, false, cond, List, [], ◌∷◌, ◌++◌, length, Some, None, refl, sym, ◌∙◌, ap, arith, if◌then◌else◌, unwrap_or}
use Rattle.std.specs.FinMap.{get, get-insert}
use Rattle.std.specs.List.{slice_get}
use Rattle.std.specs.Option.{option_map}
use Rattle.std.specs.Cmp.{unsigned_ties}
use Rattle.std.proofs.lemmas.Bool.{eqb-true}
use Rattle.std.proofs.lemmas.Cmp.{nat_cmp_total}
use Rattle.std.proofs.lemmas.List.{append-nil}
use Rattle.tb_history.specs.declared.entry.Entry.{Entry}
use Rattle.tb_history.specs.History.{Histories, entries_on, entry_of, numbered}
use Rattle.tb_history.specs.Laws.{DeedsAreNotedLast, EntriesStay, NumbersFollow}

numbered_from : (n : ℕ) (es : List Entry) (place : ℕ) → slice_get (numbered n es) place ≡ option_map (λ e. (n + place, e)) (slice_get es place)
numbered_from n [] place = refl
numbered_from n (e ∷ es) zero = let same : n ≡ n + 0 = omega arith in ap (λ k. Some (k, e)) same
numbered_from n (e ∷ es) (suc place) =
    let same : (n + 1) + place ≡ n + suc place = omega arith in
    numbered_from (n + 1) es place ∙ ap (λ k. option_map (λ (x : Entry). (k, x)) (slice_get es place)) same

pub numbers_follow : NumbersFollow
numbers_follow es place =
    let same : 1 + place ≡ place + 1 = omega arith in
    numbered_from 1 es place ∙ ap (λ k. option_map (λ (x : Entry). (k, x)) (slice_get es place)) same

by_board : (h : Histories) (new : Entry) (at board : ℕ) (is : Bool) → (board == at) ≡ is
    → unwrap_or (cond is (Some (entries_on h at ++ new ∷ [])) (get h board)) [] ≡ entries_on h board ++ (if is then new ∷ [] else [])
by_board h new at board true same = ap (λ k. entries_on h k ++ new ∷ []) (sym (eqb-true board at same))
by_board h new at board false other = sym (append-nil (entries_on h board))

pub noted_last : DeedsAreNotedLast
noted_last h member id moment None board = sym (append-nil (entries_on h board))
noted_last h member id moment (Some deed) board =
    let new = entry_of member id moment deed in
    let es = entries_on h deed.board ++ new ∷ [] in
    let found = get-insert nat_cmp_total h deed.board es board ∙ ap (λ is. cond is (Some es) (get h board)) (sym (unsigned_ties board deed.board)) in
    ap (λ o. unwrap_or o []) found ∙ by_board h new deed.board board (board == deed.board) refl

numbers_stay : (n : ℕ) (es more : List Entry) (place : ℕ) → place < length es → slice_get (numbered n (es ++ more)) place ≡ slice_get (numbered n es) place
numbers_stay n [] more place within = absurd (omega (arith, within))
numbers_stay n (e ∷ es) more zero within = refl
numbers_stay n (e ∷ es) more (suc place) within = numbers_stay (n + 1) es more place (omega (arith, within))

pub entries_stay : EntriesStay
entries_stay h member id moment deed board place within =
    ap (λ es. slice_get (numbered 1 es) place) (noted_last h member id moment deed board)
    ∙ numbers_stay 1 (entries_on h board) _ place within
