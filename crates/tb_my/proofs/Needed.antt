-- The tasks on which a new one depends, where there are some.
use Rattle.std.proofs.Common.{◌≡◌, ◌≤◌, ◌-◌, ◌++◌, ◌∷◌, [], List, Some, ap, arith, codes, drop, get_or, length, take, ◌∙◌}
use Rattle.std.proofs.lemmas.List.{take_all}
use Rattle.tb_my.specs.Adding.{ids_joined, with_needs}
use Rattle.tb_my.specs.Days.{Text}
use Rattle.tb_my.specs.declared.look.Seen.{Seen}
use Rattle.tb_my.specs.declared.part.Setting.{Setting}
use Rattle.tb_my.specs.declared.said.Said.{Said}

rest_of : (task : Seen) (tasks : List Seen) → take (length (task ∷ tasks) - 1) tasks ≡ tasks
rest_of task tasks = take_all (length (task ∷ tasks) - 1) tasks (omega arith)

pub with_first : (said : Said) (needed : List Seen) (first : Seen) (name text : Text) (settings : List Setting) → 1 ≤ length needed → first ≡ get_or needed 0 first
    → name ≡ codes "depends" → text ≡ ids_joined first (take (length needed - 1) (drop 1 needed)) → settings ≡ said.settings ++ (record { name = name; value = Some text }) ∷ []
    → record said { settings = settings } ≡ with_needs said needed
with_first said [] first name text settings some is named joined put = absurd (omega (arith, some))
with_first said (task ∷ tasks) first name text settings some is named joined put =
    ap (λ all. record said { settings = all })
    (put ∙ ap (λ n. said.settings ++ (record { name = n; value = Some text }) ∷ []) named
    ∙ ap (λ t. said.settings ++ (record { name = codes "depends"; value = Some t }) ∷ []) (joined ∙ ap (λ (more : List Seen). ids_joined first more) (rest_of task tasks) ∙ ap (λ x. ids_joined x tasks) is))
