use Rattle.std.proofs.Common.{◌≡◌, ℕ, List, [], ◌∷◌, ◌++◌, map, take, string_bytes, encode_utf8, rules, sym, ap, ◌∙◌, refl, append_assoc}
use Rattle.std.specs.Str.{chars, encode_utf8_all}
use Rattle.std.proofs.lemmas.Str.{encodes-append}
use Rattle.std.proofs.lemmas.List.{append-nil, map-append, map-id}
use Rattle.std.proofs.lemmas.Iterator.{YieldsList-from_chars, YieldsList-from_take}
use Rattle.std.proofs.lemmas.Iterator.Consumers.{YieldsList-end}
use Rattle.tb_cleaning.specs.Telling.{shown_char, one_line}
use Rattle.tb_cleaning.proofs.telling.push_line.Goals as goal

-- one character more
shown_push : (cs : List ℕ) (c d : ℕ) → d ≡ shown_char c → encode_utf8_all (map shown_char (cs ++ c ∷ [])) ≡ encode_utf8_all (map shown_char cs) ++ encode_utf8 d
shown_push cs c d e = rw (map-append shown_char cs (c ∷ []), encodes-append (map shown_char cs) (shown_char c ∷ []), append-nil (encode_utf8 (shown_char c)), e) refl

pub loop-character-preserved : goal.loop-character-preserved
loop-character-preserved c =
    let pushed : string_bytes c.push.new.self ≡ string_bytes c.loop-character.told ++ encode_utf8 c.shown_char.result = search rules in
    let before = string_bytes c.args.told.now in
    pushed ∙ ap (λ bytes. bytes ++ encode_utf8 c.shown_char.result) c.loop-character.invariant
    ∙ append_assoc before (encode_utf8_all (map shown_char c.loop-character.yielded)) (encode_utf8 c.shown_char.result)
    ∙ ap (λ t. before ++ t) (sym (shown_push c.loop-character.yielded c.in-Some.character c.shown_char.result c.shown_char.ensures))

pub returns : goal.returns
unfolding one_line
returns c =
    let all = YieldsList-end (YieldsList-from_take 80 (YieldsList-from_chars c.args.text.now c.utf8.text (search rules)) (search rules)) c.loop-character.yielded _ c.loop-character.yielded_by _ _ c.in-None.is c.next.ensures.steps in
    let same : map (λ (x : ℕ). x) c.loop-character.yielded ≡ take 80 (chars c.args.text.now) = all.0 in
    c.loop-character.invariant ∙ ap (λ cs. string_bytes c.args.told.now ++ encode_utf8_all (map shown_char cs)) (sym (map-id c.loop-character.yielded) ∙ same)
