-- Words without the option at their end.
use Rattle.std.proofs.Common.{◌≡◌, ◌∙◌, ◌-◌, ℕ, Bool, true, false, List, ap, arith, if◌then◌else◌, length, map, sym, take}
use Rattle.std.proofs.lemmas.List.{length-map, take-map, take_all}
use Rattle.tb_command_line.specs.Extra.{count_without}

pub taken : {A B : Type 0} (f : A → B) (words : List A) (has : Bool) (end : ℕ) → end ≡ count_without has words
    → map f (take end words) ≡ (if has then take (length (map f words) - 1) (map f words) else map f words)
taken f words true end is =
    ap (λ n. map f (take n words)) is ∙ sym (take-map f (length words - 1) words)
    ∙ ap (λ n. take (n - 1) (map f words)) (sym (length-map words f))
taken f words false end is =
    ap (λ n. map f (take n words)) is ∙ ap (map f) (take_all (length words) words (omega arith))
