-- The changes of the tasks that are named, by what is said.
use Rattle.std.proofs.Common.{◌≡◌, ◌∙◌, List, false, Result, Ok, ap, sym, subst}
use Rattle.tb_my.specs.Changing.{changed_all, changed_as}
use Rattle.tb_my.specs.Days.{Text}
use Rattle.tb_my.specs.Named.{named_at_front}
use Rattle.tb_my.specs.Outcome.{Reads}
use Rattle.tb_my.specs.Said.{nothing_said, said_from}
use Rattle.tb_my.specs.declared.changing.Edit.{Edit}
use Rattle.tb_my.specs.declared.fault.MyFault.{MyFault}
use Rattle.tb_my.specs.declared.look.Seen.{Seen}
use Rattle.tb_my.specs.declared.said.Said.{Said}
use Rattle.tb_my.specs.declared.sent.Sent.{Sent}
use Rattle.tb_my.specs.declared.zone.Clock.{Clock}
use Rattle.tb_values.specs.Outcome.{◌>>=◌}

pub changed_is : (clock : Clock) (me board : Text) (tasks : List Seen) (edit : Edit) (first : Text) (further words : List Text) (named slice : List Seen)
    (before said : Said) (result : Result (List Sent) MyFault) → named_at_front tasks first further ≡ Ok named → before ≡ nothing_said
    → said_from clock me before false words ≡ Ok said → slice ≡ named → Reads result (changed_all board tasks edit slice said)
    → Reads result (changed_as clock me board tasks edit first further words)
unfolding changed_as
changed_is clock me board tasks edit first further words named slice before said result names begins says same all =
    let spoken : said_from clock me nothing_said false words ≡ Ok said = ap (λ (x : Said). said_from clock me x false words) (sym begins) ∙ says in
    let front =
    ap (λ (r : Result (List Seen) MyFault). r >>= (λ ns. said_from clock me nothing_said false words >>= (λ s. changed_all board tasks edit ns s))) names in
    let back = ap (λ (r : Result Said MyFault). r >>= (λ s. changed_all board tasks edit named s)) spoken in
    subst (λ (r : Result (List Sent) MyFault). Reads result r) (ap (λ (ns : List Seen). changed_all board tasks edit ns said) same ∙ sym (front ∙ back)) all
