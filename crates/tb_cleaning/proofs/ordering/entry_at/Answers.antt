use Rattle.std.proofs.Common.{◌≡◌, ℕ, Bor, List, None, Option, Some, ◌∙◌, ap, length, map, option_map, refl, sym}
use Rattle.std.specs.List.{slice_get}
use Rattle.std.specs.Slice.{IsItemAt}
use Rattle.std.proofs.lemmas.Option.{slice_get-map, slice_get_past, slice_get_read}
use Rattle.tb_cleaning.specs.Entries.{seen}
use Rattle.tb_cleaning.specs.declared.entry.Entry.{Entry}
use Rattle.tb_cleaning.proofs.ordering.entry_at.Goals as goal

seen_at : (es : List Entry) (i : ℕ) (found : Option (Bor Entry)) → IsItemAt es i found → option_map (λ e. seen e.now) found ≡ slice_get (map seen es) i
seen_at es i None h = sym (slice_get-map seen es i ∙ ap (option_map seen) (slice_get_past es i h.3))
seen_at es i (Some e) h = sym (slice_get-map seen es i ∙ ap (option_map seen) (slice_get_read es (length es) i e.now refl h.3.0 h.1))

pub returns : goal.returns
returns c = seen_at c.args.entries.now c.args.place c.get.result c.get.ensures.lookup
