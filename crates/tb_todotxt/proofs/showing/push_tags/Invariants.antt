use Rattle.std.proofs.Common.{◌≡◌, ◌++◌, drop, string_bytes}
use Rattle.tb_todotxt.specs.Showing.{tags_text}
use Rattle.tb_todotxt.proofs.showing.push_tags.Given as goal

-- the text so far, and that of the tags to come
abbrev pub invariant-loop-tag : goal.invariant-loop-tag
invariant-loop-tag l = string_bytes l.body ++ tags_text (drop l.tag-index l.tags) ≡ string_bytes l.initial.body ++ tags_text l.tags
