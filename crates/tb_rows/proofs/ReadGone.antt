-- The gone places of a board are read back from their rows.
use Rattle.std.proofs.Common.{◌≡◌, ℕ, ◌+◌, ◌-◌, ◌==◌, true, List, [], ◌∷◌, ◌++◌, Option, Some, None, MatchOption, Ok, map, slice_get, refl, sym, ap, ◌∙◌, arith, append_assoc, true≢false, inl, inr}
use Rattle.std.specs.List.{AllByRecursion, list_any}
use Rattle.std.proofs.lemmas.Bool.{cases_Bool, eqb-true}
use Rattle.std.proofs.lemmas.Bool.Decides.{eqb_tells}
use Rattle.std.proofs.lemmas.List.{append-nil}
use Rattle.std.proofs.lemmas.Option.{slice_get-get_or}
use Rattle.tb_task.specs.Mask.{is_mark}
use Rattle.tb_task.specs.declared.task.Task.{Task}
use Rattle.tb_board.specs.Tasks.{ids, place_in}
use Rattle.tb_board.specs.First.{IsFirst, IsNone}
use Rattle.tb_board.specs.Instances.{is_template_with, IsGoneOn}
use Rattle.tb_board.specs.declared.board.Board.{Board}
use Rattle.tb_board.specs.declared.gone.Gone.{Gone}
use Rattle.tb_board.proofs.Places.{place}
use Rattle.tb_rows.specs.Rows.{place_of, gone_row}
use Rattle.tb_rows.specs.Forms.{HasMark}
use Rattle.tb_rows.specs.Reading.{id_at, mark_of, gone_of, gone_in}

-- ---- the place of a template is the place of its identifier

any_id : (id : ℕ) (ts : List Task) → list_any (is_template_with id) ts ≡ true → list_any (λ i. i == id) (ids ts) ≡ true
any_id id [] h = h
any_id id (t ∷ ts) h =
    elim (cases_Bool (t.id == id)) [
      | inl here ↦ rw here refl
      | inr other ↦ let later : list_any (is_template_with id) ts ≡ true = rw other at h in rw other (any_id id ts later)
    ]

-- the identifier stands at the place that is found
pub record IsPlaced (ts : List Task) (id k : ℕ) : Type 0 where
  pub found : place_in (ids ts) id ≡ Some k
  pub there : slice_get (ids ts) k ≡ Some id

pub placed : (ts : List Task) (id : ℕ) → list_any (is_template_with id) ts ≡ true → (k : ℕ) × IsPlaced ts id k
placed ts id h = go (place_in (ids ts) id) refl (place (λ i. i == id) (ids ts))
  where
    go : (o : Option ℕ) → place_in (ids ts) id ≡ o → MatchOption o (IsNone (λ i. i == id) (ids ts)) (IsFirst (λ i. i == id) (ids ts)) → (k : ℕ) × IsPlaced ts id k
    go None is none = absurd (true≢false (sym (any_id id ts h) ∙ none.none))
    go (Some k) is first = (k, record { found = is; there = slice_get-get_or (ids ts) k 0 first.within ∙ ap Some (eqb-true _ id (first.passes 0)) })

id_next : (ts : List Task) (k id : ℕ) → slice_get (ids ts) k ≡ Some id → id_at ts (k + 1) ≡ Ok id
id_next ts k id there =
    elim (eqb_tells (k + 1) 0) [
      | inl zero ↦ absurd (omega (arith, zero.1))
      | inr more ↦ let back : k + 1 - 1 ≡ k = omega arith in rw (more.0, back, there) refl
    ]

id_read : (ts : List Task) (id : ℕ) → list_any (is_template_with id) ts ≡ true → id_at ts (place_of ts id) ≡ Ok id
id_read ts id h = let (k, is) = placed ts id h in rw is.found (id_next ts k id is.there)

-- ---- a gone place is read

mark_read : (c : ℕ) → is_mark c ≡ true → mark_of (c ∷ []) ≡ Ok c
mark_read c h = rw h refl

place_read : (b : Board) (g : Gone) → IsGoneOn b g → HasMark g → gone_of b.tasks (gone_row b g) ≡ Ok g
place_read b g on mark = rw (id_read b.tasks g.template on, mark_read g.mark mark) refl

pub gone_read : (b : Board) (found gs : List Gone) → AllByRecursion (IsGoneOn b) gs → AllByRecursion HasMark gs
    → gone_in b.tasks found (map (gone_row b) gs) ≡ Ok (found ++ gs)
gone_read b found [] on marks = ap Ok (sym (append-nil found))
gone_read b found (g ∷ gs) on marks = rw (place_read b g on.0 marks.0) (gone_read b (found ++ g ∷ []) gs on.1 marks.1 ∙ ap Ok (append_assoc found (g ∷ []) gs))
