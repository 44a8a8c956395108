-- The text of a change.
use Rattle.std.proofs.Common.{◌≡◌, ◌≢◌, ◌∙◌, ℕ, ◌<◌, ◌^◌, [], ◌∷◌, ◌++◌, Option, Some, None, Result, Ok, Err, IfOk, MatchOption, true, false, Bool, sym, ap, refl, subst, arith, append_assoc, length, get_or, Bor}
use Rattle.std.specs.Prelude.{IsSomeAnd, ◌&&◌}
use Rattle.std.specs.Str.{bytes_eq}
use Rattle.std.specs.List.{list_all}
use Rattle.std.proofs.lemmas.List.Sums.{AllPass-from_list_all}
use Rattle.std.proofs.lemmas.Slice.Eq.{bytes_eq-Decides}
use Rattle.std.proofs.lemmas.Str.Pattern.{IsSplitOnceResult, split_after}
use Rattle.tb_client.specs.Request.{Text}
use Rattle.tb_board.specs.Names.{has_length, is_key, is_key_byte}
use Rattle.tb_task.specs.TaskId.{IsRead, id_text}
use Rattle.tb_sending.specs.Beside.{IsFound, begun_of, begun_text, owner_line}
use Rattle.tb_command_line.specs.declared.order.SendOrder.{SendOrder}
use Rattle.tb_sending.specs.declared.beside.Begun.{Begun}

-- it equals what would be written
pub is_begun : (order : SendOrder) (begun : Begun) (written text : Text) → written ≡ begun_text order begun → bytes_eq written text ≡ true → text ≡ begun_text order begun
is_begun order begun written text is same = sym ((bytes_eq-Decides written text).0 same) ∙ is

-- it isn't what would be written of the only change whose text it may be
pub is_other : (order : SendOrder) (begun : Begun) (written text : Text) → written ≡ begun_text order begun → bytes_eq written text ≡ false → IsFound order text (Some begun) → IsFound order text None
is_other order begun written text is apart found other good small e =
    let same : begun ≡ other = let both = found other good small e in cc in
    let equal : written ≡ text = is ∙ ap (begun_text order) same ∙ sym e in
    let fails = (bytes_eq-Decides written text).1 equal in
    cc

-- the second of two tests that hold
both : (a b : Bool) → (a && b) ≡ true → b ≡ true
both true b h = h
both false b h = cc

-- no byte of a key ends a line
no_end : (key : Text) → is_key key ≡ true → (i : ℕ) → i < length key → get_or key i 0 ≢ 10
unfolding is_key
no_end key good i inside ends =
    let visible = AllPass-from_list_all is_key_byte key (both (has_length 8 64 key) (list_all is_key_byte key) good) i 0 inside in
    let fails : is_key_byte 10 ≡ true = subst (λ byte. is_key_byte byte ≡ true) ends visible in
    cc

-- the line of the key is what stands before the first end of a line
pub key_line : (key text rest : Text) (r : Option (Bor Text × Bor Text)) → IsSplitOnceResult 10 text r → is_key key ≡ true → text ≡ key ++ (10 ∷ rest)
    → IsSomeAnd r (λ x. (x.0.now ≡ key) × (x.1.now ≡ rest))
key_line key text rest None cut good e = split_after 10 text key rest None cut (omega arith) e (no_end key good)
key_line key text rest (Some x) cut good e = split_after 10 text key rest (Some x) cut (omega arith) e (no_end key good)

-- the texts of a key and an identifier are those of their change
begun_again : IsRead → (begun : Begun) → is_key begun.key ≡ true → begun.id < 2 ^ 128 → begun_of begun.key (id_text begun.id) ≡ Some begun
begun_again law begun good small = let read = law begun.id small in rw (good, read)

-- the line of its owner has its end
begun_lines : (order : SendOrder) (begun : Begun) → begun_text order begun ≡ begun.key ++ (10 ∷ (owner_line order ++ (id_text begun.id ++ 10 ∷ [])))
begun_lines order begun = simp append_assoc

-- two texts round a line, the first of which is a key
abbrev pub IsAround : Text → Text → Option (Bor Text × Bor Text) → Type 0
IsAround line text parts = (key id : Text) → is_key key ≡ true → text ≡ key ++ (10 ∷ (line ++ (id ++ 10 ∷ []))) → IsSomeAnd parts (λ x. (x.0.now ≡ key) × (x.1.now ≡ id))

-- those round the owner's line are of the only change whose text it may be
found_around : IsRead → (order : SendOrder) (text : Text) (found : Option Begun) (parts : Option (Bor Text × Bor Text)) → IsAround (owner_line order) text parts
    → MatchOption parts (found ≡ None) (λ x. found ≡ begun_of x.0.now x.1.now) → IsFound order text found
found_around law order text found None around is begun good small e =
    absurd (around begun.key (id_text begun.id) good (e ∙ begun_lines order begun))
found_around law order text found (Some x) around is begun good small e =
    let parts = around begun.key (id_text begun.id) good (e ∙ begun_lines order begun) in
    is ∙ ap (λ key. begun_of key x.1.now) parts.0 ∙ ap (begun_of begun.key) parts.1 ∙ begun_again law begun good small

-- there are none where nothing is found
pub found_none : IsRead → (order : SendOrder) (line text : Text) (parts : Option (Bor Text × Bor Text)) → line ≡ owner_line order → IsAround line text parts → parts ≡ None
    → IsFound order text None
found_none law order line text parts same around is =
    found_around law order text None None (subst (λ p. IsAround (owner_line order) text p) is (subst (λ l. IsAround l text parts) same around)) refl

-- of two texts that are found the change is read
found_with : {E : Type 0} → IsRead → (order : SendOrder) (text : Text) (r : Result (Option Begun) E) (x : Bor Text × Bor Text) → IsAround (owner_line order) text (Some x)
    → IfOk r (λ found. found ≡ begun_of x.0.now x.1.now) → IfOk r (IsFound order text)
found_with law order text (Err e) x around is = tt
found_with law order text (Ok found) x around is = found_around law order text found (Some x) around is

-- and else they are the key and the identifier
pub found_by : {E : Type 0} (x : Bor Text × Bor Text) → IsRead → (order : SendOrder) (line text : Text) (r : Result (Option Begun) E) (parts : Option (Bor Text × Bor Text)) (key id : Text)
    → line ≡ owner_line order → IsAround line text parts → parts ≡ Some x → key ≡ x.0.now → id ≡ x.1.now
    → IfOk r (λ found. found ≡ begun_of key id) → IfOk r (IsFound order text)
found_by x law order line text r parts key id same around is key_is id_is read =
    found_with law order text r x (subst (λ p. IsAround (owner_line order) text p) is (subst (λ l. IsAround l text parts) same around))
    (subst (λ k. IfOk r (λ found. found ≡ begun_of k x.1.now)) key_is (subst (λ n. IfOk r (λ found. found ≡ begun_of key n)) id_is read))
