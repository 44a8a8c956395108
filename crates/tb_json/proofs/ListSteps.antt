-- The text of a list, a task at a time.
use Rattle.std.proofs.Common.{◌≡◌, ℕ, zero, suc, ◌<◌, List, [], ◌∷◌, ◌++◌, length, map, drop, get_or, Bool, true, false, refl, sym, ap, ◌∙◌, append_assoc, append-nil, arith}
use Rattle.tb_task.specs.declared.incoming.Shown.{Shown}
use Rattle.tb_json.specs.ListText.{separated, ended, list_text, piece, pieces, line_end}
use Rattle.tb_json.specs.Writing.{shown_text}

-- what is still to be written
abbrev pub tail_of : Bool → List (List ℕ) → List ℕ
tail_of is_first texts = pieces is_first texts ++ (line_end is_first texts ++ 93 ∷ 10 ∷ [])

pieces-false : (text : List ℕ) (texts : List (List ℕ)) → pieces false (text ∷ texts) ≡ 44 ∷ 10 ∷ separated (text ∷ texts)
pieces-false text [] = ap (λ s. 44 ∷ 10 ∷ s) (append-nil text)
pieces-false text (more ∷ texts) = ap (λ s. 44 ∷ 10 ∷ (text ++ s)) (pieces-false more texts)

pieces-true : (text : List ℕ) (texts : List (List ℕ)) → pieces true (text ∷ texts) ≡ separated (text ∷ texts)
pieces-true text [] = append-nil text
pieces-true text (more ∷ texts) = ap (λ s. text ++ s) (pieces-false more texts)

whole : (texts : List (List ℕ)) → tail_of true texts ≡ ended texts ++ 93 ∷ 10 ∷ []
whole [] = refl
whole (text ∷ texts) = ap (λ s. s ++ 10 ∷ 93 ∷ 10 ∷ []) (pieces-true text texts) ∙ sym (append_assoc (separated (text ∷ texts)) (10 ∷ []) (93 ∷ 10 ∷ []))

pub list_text-tail : (texts : List (List ℕ)) → 91 ∷ 10 ∷ tail_of true texts ≡ list_text texts
list_text-tail texts = ap (λ s. 91 ∷ 10 ∷ s) (whole texts)

line_end_after : (is_first : Bool) (text : List ℕ) (texts : List (List ℕ)) → line_end is_first (text ∷ texts) ≡ 10 ∷ []
line_end_after true text texts = refl
line_end_after false text texts = refl

tail_more : (is_first : Bool) (written text : List ℕ) (texts : List (List ℕ)) → written ++ tail_of is_first (text ∷ texts) ≡ (written ++ piece is_first text) ++ tail_of false texts
tail_more is_first written text texts = rw (line_end_after is_first text texts) (ap (λ s. written ++ s) (append_assoc (piece is_first text) (pieces false texts) _) ∙ sym (append_assoc written (piece is_first text) _))

-- the task at an index is written
pub tail-more : (ts : List Shown) (i : ℕ) (t : Shown) (is_first : Bool) (written : List ℕ) → i < length ts → t ≡ get_or ts i t
    → written ++ tail_of is_first (map shown_text (drop i ts)) ≡ (written ++ piece is_first (shown_text t)) ++ tail_of false (map shown_text (drop (suc i) ts))
tail-more [] i t is_first written h is = absurd (omega arith)
tail-more (x ∷ ts) zero t is_first written h is = rw (sym is) (tail_more is_first written (shown_text t) (map shown_text ts))
tail-more (x ∷ ts) (suc i) t is_first written h is = tail-more ts i t is_first written (omega arith) is
