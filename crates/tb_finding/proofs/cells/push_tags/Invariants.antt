use Rattle.std.proofs.Common.{◌≡◌, ◌++◌, drop, string_bytes}
use Rattle.tb_finding.specs.Cells.{tag_words}
use Rattle.tb_finding.proofs.cells.push_tags.Given as goal

-- the tags so far and those that are left are all
abbrev pub invariant-loop-tag : goal.invariant-loop-tag
invariant-loop-tag l =
    string_bytes l.text ++ tag_words (drop l.tag-index l.tags) ≡ string_bytes l.fn.text ++ tag_words l.tags
