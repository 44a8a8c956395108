-- From the bytes that are held to all that a reader brings.
use Rattle.std.proofs.Common.{◌≡◌, ℕ, ◌+◌, ◌<◌, ◌≤◌, ◌⊎◌, List, [], ◌∷◌, ◌++◌, length, zero, suc, refl, sym, ap, ◌∙◌, subst, arith, append-nil, inl, inr, Bool, true, false, Option, Some, None, Result, Ok, Err, IfSome}
use Rattle.std.specs.Prelude.{◌==◌, ◌||◌, find, if◌then◌else◌, nat_le, nat_lt, not, ◌&&◌, IsSomeAnd, codes}
use Rattle.std.specs.List.{list_all, list_any}
use Rattle.std.specs.Str.{bytes_eq}
use Rattle.std.specs.Str.Parse.{digits_value}
use Rattle.std.specs.Io.KnownBytes.{Keeps, IsAtEnd, prepend_known}
use Rattle.std.proofs.lemmas.Bool.{eqb-true, le-leb, ltb-false}
use Rattle.std.proofs.lemmas.List.{length-append}
use Rattle.tb_http.specs.declared.fault.WireFault.{WireFault}
use Rattle.tb_http.specs.declared.fault.WireFault.TheVariants.{Ended, Torn, ReadFailed, Memory, BadHead, HeadTooLong, Coding, NoLength, BodyTooLong}
use Rattle.tb_http.specs.declared.message.Field.{Field}
use Rattle.tb_http.specs.declared.message.Head.{Head}
use Rattle.tb_http.specs.declared.message.Message.{Message}
use Rattle.tb_http.specs.Closing.{message_limit}
use Rattle.tb_http.specs.Framing.{agrees, body_length, body_limit, declared_length, field_limit, has_bad_hosts, is_long, length_of}
use Rattle.tb_http.specs.Inbox.{HasFault, IsUnfinished}
use Rattle.tb_http.specs.Message.{count_named, is_named}
use Rattle.tb_http.specs.Numerals.{is_number}
use Rattle.tb_http.specs.Wire.{head_limit, BeginsWithMessage, Breaks, Faults, is_last}
use Rattle.tb_http.proofs.StreamLemmas.{message_more}

-- a fact of all the bytes, from what is held and what is still to be read
at_known : (known left : Option (List ℕ)) (held : List ℕ) (P : List ℕ → Type 0) → Keeps known (prepend_known held left)
    → ((more : List ℕ) → left ≡ Some more → P (held ++ more)) → IfSome known P
at_known None left held P keeps here = tt
at_known (Some x) None held P keeps here = absurd keeps
at_known (Some x) (Some more) held P keeps here = subst P keeps (here more refl)

-- from what was kept back to what was there
pub known_before : (known later : Option (List ℕ)) (P : List ℕ → Type 0) → Keeps known later → IfSome later P → IfSome known P
known_before None later P keeps is = tt
known_before (Some x) None P keeps is = absurd keeps
known_before (Some x) (Some y) P keeps is = subst P keeps is

pub fault_known : (known left : Option (List ℕ)) (held : List ℕ) (fault : WireFault) → Keeps known (prepend_known held left)
    → HasFault held fault → IfSome known (λ bytes. Faults bytes fault)
fault_known known left held fault keeps has = at_known known left held (λ bytes. Faults bytes fault) keeps (λ more _. has more)

pub message_known : (known left : Option (List ℕ)) (held rest : List ℕ) (message : Message) (closes : Bool) (A : Bool → Type 0)
    → Keeps known (prepend_known held left) → BeginsWithMessage held message closes rest → A closes
    → IfSome known (λ bytes. IsSomeAnd (prepend_known rest left) (λ behind. (ends : Bool) × BeginsWithMessage bytes message ends behind × A ends))
message_known known left held rest message closes A keeps begins also =
    at_known known left held (λ bytes. IsSomeAnd (prepend_known rest left) (λ behind. (ends : Bool) × BeginsWithMessage bytes message ends behind × A ends)) keeps
    (λ more here.
    let taken = message_more held more message closes rest begins in
    subst (λ (l : Option (List ℕ)). IsSomeAnd (prepend_known rest l) (λ behind. (ends : Bool) × BeginsWithMessage (held ++ more) message ends behind × A ends))
    (sym here) (closes, taken, also))

-- the message that the limit allows closes
pub last_at_limit : (closes : Bool) (before after : ℕ) → after ≡ before + 1 → message_limit ≤ after → is_last closes before ≡ true
last_at_limit closes before after next reached =
    let full : nat_le message_limit (before + 1) ≡ true = le-leb message_limit (before + 1) (omega (arith, next, reached)) in
    ap (λ full. closes || full) full ∙ or_true closes
  where
    or_true : (b : Bool) → (b || true) ≡ true
    or_true true = refl
    or_true false = refl

-- the reader and memory may fail at any point
pub outside_known : (known : Option (List ℕ)) (fault : WireFault) → (fault ≡ Memory) ⊎ (fault ≡ ReadFailed) → IfSome known (λ bytes. Faults bytes fault)
outside_known None fault is = tt
outside_known (Some bytes) fault (inl is) = inr (subst (λ (f : WireFault). Breaks bytes f) (sym is) tt)
outside_known (Some bytes) fault (inr is) = inr (subst (λ (f : WireFault). Breaks bytes f) (sym is) tt)

-- at the end of what is read nothing is behind what is held
at_end : (known left : Option (List ℕ)) (held : List ℕ) (P : List ℕ → Type 0) → Keeps known (prepend_known held left) → IsAtEnd left → P held → IfSome known P
at_end known left held P keeps end is =
    at_known known left held P keeps
    (λ more here.
    let none : more ≡ [] = subst IsAtEnd here end in
    subst P (sym (ap (λ l. held ++ l) none ∙ append-nil held)) is)

pub ended_known : (known left : Option (List ℕ)) (held : List ℕ) → Keeps known (prepend_known held left) → IsAtEnd left → length held ≡ 0
    → IfSome known (λ bytes. Faults bytes Ended)
ended_known known left [] keeps end none = at_end known left [] (λ bytes. Faults bytes Ended) keeps end (inr refl)
ended_known known left (b ∷ held) keeps end none = absurd (omega (arith, none))

torn_there : (held : List ℕ) → IsUnfinished held → 0 < length held → Breaks held Torn
torn_there held (inl ended) some = absurd (omega (arith, some, ap length ended))
torn_there held (inr torn) some = torn

pub torn_known : (known left : Option (List ℕ)) (held : List ℕ) → Keeps known (prepend_known held left) → IsAtEnd left → IsUnfinished held → 0 < length held
    → IfSome known (λ bytes. Faults bytes Torn)
torn_known known left held keeps end unfinished some =
    at_end known left held (λ bytes. Faults bytes Torn) keeps end (inr (torn_there held unfinished some))

pub is_zero : (n : ℕ) → (n == 0) ≡ true → n ≡ 0
is_zero n is = eqb-true n 0 is

pub not_zero : (n : ℕ) → (n == 0) ≡ false → 0 < n
not_zero zero is = absurd (cc)
not_zero (suc n) is = omega arith

-- with nothing held
pub prepend_nothing : (left : Option (List ℕ)) (held : List ℕ) → held ≡ [] → prepend_known held left ≡ left
prepend_nothing None held none = refl
prepend_nothing (Some x) held none = ap (λ h. Some (h ++ x)) none

-- ---- what is unfinished is short

unless_err : (test : Bool) (fault : WireFault) (r : Result ℕ WireFault) (size : ℕ) → (if test then Err fault else r) ≡ Ok size → r ≡ Ok size
unless_err true fault r size is = absurd (cc)
unless_err false fault r size is = is

by_test : (any over : Bool) (limit value size : ℕ) → nat_lt limit value ≡ over → (if any || over then Err BodyTooLong else Ok value) ≡ Ok size → size ≤ limit
by_test true over limit value size test is = absurd (cc)
by_test false true limit value size test is = absurd (cc)
by_test false false limit value size test is = let same : value ≡ size = cc in omega (arith, same, ltb-false limit value test)

declared_bound : (method : List ℕ) (line : Option Field) (fields : List Field) (size : ℕ) → declared_length method line fields ≡ Ok size → size ≤ body_limit
unfolding declared_length length_of
declared_bound method None fields size is =
    let none : 0 ≡ size = let ok = unless_err (bytes_eq method (codes "POST")) NoLength (Ok 0) size is in cc in
    omega (arith, none)
declared_bound method (Some line) fields size is =
    let value = digits_value 10 line.value in
    let any = list_any is_long fields in
    let ok =
    unless_err (not (is_number line.value && list_all (agrees line.value) fields)) BadHead
    (if any || nat_lt body_limit value then Err BodyTooLong else Ok value) size is in
    by_test any (nat_lt body_limit value) body_limit value size refl ok

body_bound : (head : Head) (size : ℕ) → body_length head ≡ Ok size → size ≤ body_limit
unfolding body_length
body_bound head size is =
    let declared = declared_length head.method (find (is_named (codes "content-length")) head.fields) head.fields in
    let coded : Result ℕ WireFault = if nat_lt 0 (count_named (codes "transfer-encoding") head.fields) then Err Coding else declared in
    let many : Result ℕ WireFault = if nat_lt field_limit (length head.fields) then Err HeadTooLong else coded in
    let few = unless_err (has_bad_hosts (count_named (codes "host") head.fields) head.minor) BadHead many size is in
    let plain = unless_err (nat_lt field_limit (length head.fields)) HeadTooLong coded size few in
    let ok = unless_err (nat_lt 0 (count_named (codes "transfer-encoding") head.fields)) Coding declared size plain in
    declared_bound head.method (find (is_named (codes "content-length")) head.fields) head.fields size ok

pub unfinished_short : (bytes : List ℕ) → IsUnfinished bytes → length bytes ≤ head_limit + body_limit
unfinished_short bytes (inl ended) = omega (arith, ap length ended)
unfinished_short bytes (inr (inl torn)) = omega (arith, torn.2)
unfinished_short bytes (inr (inr lacks)) =
    let whole = ap length lacks.begins.reads.1 ∙ length-append _ lacks.behind in
    omega (arith, whole, lacks.begins.short, lacks.short, body_bound lacks.head lacks.size lacks.framed)
