use Rattle.std.proofs.Common.{◌∙◌, ap, map}
use Rattle.serde_json.specs.View.{view}
use Rattle.tb_cleaning.specs.Entries.{seen}
use Rattle.tb_cleaning.proofs.Whole.{cleaned_is}
use Rattle.tb_cleaning.proofs.cleaning.cleaned_of.Goals as goal

pub returns : goal.returns
returns c =
    let entries = c.in_ok-entries.entries in
    let list = c.in_ok-list.list in
    cleaned_is c.args.skips (map view c.args.items.now) (map seen entries.items) (map seen c.as_slice.result.now) (map seen c.as_slice-2.result.now)
    (map (λ e. seen e.now) list.items) (map (λ e. seen e.now) c.as_slice-3.result.now) (map (λ e. seen e.now) c.as_slice-4.result.now)
    c.in_ok-notes.notes c.in_ok-text.text c.in_ok-text-2.field-0 c.len.result
    c.in_ok-entries.ensures (ap (map seen) c.as_slice.ensures.value) c.in_ok-list.ensures (ap (map seen) c.as_slice-2.ensures.value)
    (ap (map (λ e. seen e.now)) c.as_slice-3.ensures.value) c.in_ok-notes.ensures (ap (map (λ e. seen e.now)) c.as_slice-4.ensures.value)
    c.in_ok-text.ensures c.in_ok-text-2.ensures c.len.ensures
