use Rattle.std.proofs.Common.{rules, ◌≡◌, ◌∙◌, ◌++◌, ℕ, false, List, [], Result, Ok, Err, append_assoc, ap, sym}
use Rattle.std.specs.Prelude.{◌==◌, OnOk, codes, decimal, if◌then◌else◌}
use Rattle.tb_event_loop.specs.Logging.{missed_text}
use Rattle.tb_event_loop.proofs.logging.push_missed.Goals as goal

joined : (old first blank number last : List ℕ) → old ++ first ++ blank ++ number ++ last ≡ old ++ (first ++ blank ++ number ++ last)
joined old first blank number last = simp append_assoc

counted : {T E : Type 0} (result : Result T E) (old new : List ℕ) (missed : ℕ) → (missed == 0) ≡ false
    → OnOk result (new ≡ old ++ codes "\ntaskboard: lines of the log that couldn't be written:" ++ codes " " ++ decimal missed ++ codes "\n")
    → OnOk result (new ≡ old ++ missed_text missed)
counted (Ok x) old new missed some is =
    let text = codes "\ntaskboard: lines of the log that couldn't be written:" ++ codes " " ++ decimal missed ++ codes "\n" in
    is ∙ joined old (codes "\ntaskboard: lines of the log that couldn't be written:") (codes " ") (decimal missed) (codes "\n")
    ∙ sym (ap (λ b. old ++ (if b then [] else text)) some)
counted (Err e) old new missed some is = tt

pub returns : goal.returns
returns c = counted c.push_count.result c.args.line.now.items c.push_count.new.line.items c.args.missed (search rules) c.push_count.ensures
