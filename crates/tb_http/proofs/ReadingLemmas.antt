-- What is read off bytes is read in one way only.
use Rattle.std.proofs.Common.{◌≡◌, ℕ, ◌+◌, ◌-◌, ◌<◌, ◌≤◌, ◌⊎◌, List, [], ◌++◌, length, take, drop, refl, sym, ap, ◌∙◌, subst, arith, inl, inr, Ok, Err, Bool}
use Rattle.std.proofs.lemmas.List.{length-append, length-take, take_all}
use Rattle.std.proofs.Math.Seq.{take-append-add}
use Rattle.httparse.specs.Grammar.{RequestHead, print_request, ReadsRequest}
use Rattle.httparse.proofs.GrammarLemmas.{request_unique, print_request-append}
use Rattle.tb_http.specs.declared.fault.WireFault.{WireFault}
use Rattle.tb_http.specs.declared.fault.WireFault.TheVariants.{Ended, Torn, ReadFailed, BadHead, HeadTooLong, Coding, NoLength, BodyTooLong, NoRoute, NoMethod, NoId, BadBody, NoClock, Memory}
use Rattle.tb_http.specs.declared.message.Head.{Head}
use Rattle.tb_http.specs.declared.message.Message.{Message}
use Rattle.tb_http.specs.Message.{head_from, message_from}
use Rattle.tb_http.specs.Wire.{head_limit, BeginsWithHead, BeginsWithMessage, RefusesHead, LacksBody, IsOpen, Breaks}
use Rattle.tb_http.specs.Framing.{body_length}
use Rattle.tb_http.specs.Closing.{asks_to_close}
use Rattle.tb_http.specs.Head.{HasBadLine}
use Rattle.tb_http.specs.Laws.{OneMessage, IsOutside, NoOtherFault, OneFault}
use Rattle.tb_http.proofs.HeadLemmas.{head_has_no_bad_line}

head_unique : (bytes : List ℕ) (h k : Head) (b c : List ℕ) → BeginsWithHead bytes h b → BeginsWithHead bytes k c → (h ≡ k) × (b ≡ c)
head_unique bytes h k b c x y =
    let same = request_unique bytes x.tree y.tree b c x.reads y.reads in
    (x.says ∙ ap head_from same.0 ∙ sym y.says, same.1)

size_unique : (h k : Head) (m n : ℕ) → h ≡ k → body_length h ≡ Ok m → body_length k ≡ Ok n → m ≡ n
size_unique h k m n same x y = cc

pub one_message : OneMessage
one_message bytes a b closes ends rest other x y =
    let same = head_unique bytes x.head y.head x.behind y.behind x.begins y.begins in
    let size = size_unique x.head y.head x.size y.size same.0 x.framed y.framed in
    let body : take x.size x.behind ≡ take y.size y.behind = cc in
    let left : drop x.size x.behind ≡ drop y.size y.behind = cc in (
      x.says ∙ ap (λ h. message_from h (take x.size x.behind)) same.0 ∙ ap (message_from y.head) body ∙ sym y.says,
      x.closing ∙ ap asks_to_close same.0 ∙ sym y.closing,
      x.rest_is ∙ left ∙ sym y.rest_is,
    )

-- a head that isn't too long is in the window
in_window : (n : ℕ) (bytes : List ℕ) (tree : RequestHead) (rest : List ℕ) → length (print_request tree) ≤ n → ReadsRequest bytes tree rest
    → ReadsRequest (take n bytes) tree (take (n - length (print_request tree)) rest)
in_window n bytes tree rest short reads =
    let len = length (print_request tree) in
    let count : n ≡ len + (n - len) = omega arith in
    (reads.0, ap (take n) reads.1 ∙ ap (λ k. take k (print_request tree ++ rest)) count ∙ take-append-add (print_request tree) rest (n - len))

-- a head has bytes
no_empty_head : (tree : RequestHead) (rest : List ℕ) → ReadsRequest [] tree rest → ⊥
no_empty_head tree rest reads =
    let whole = simp length-append at (ap length (reads.1 ∙ print_request-append tree rest)) in
    let token = reads.0.method.0 in
    absurd (omega arith)

no_refusal : (h k : Head) (n : ℕ) (fault : WireFault) → h ≡ k → body_length h ≡ Ok n → body_length k ≡ Err fault → ⊥
no_refusal h k n fault same x y = cc

-- the window of bytes that begin with a head has no bad line, and a head
window_is_good : (bytes : List ℕ) (head : Head) (behind : List ℕ) → BeginsWithHead bytes head behind → HasBadLine (take head_limit bytes) → ⊥
window_is_good bytes head behind begins bad =
    head_has_no_bad_line _ begins.tree _ (in_window head_limit bytes begins.tree behind begins.short begins.reads) bad

window_is_whole : (bytes : List ℕ) (head : Head) (behind : List ℕ) → BeginsWithHead bytes head behind → IsOpen (take head_limit bytes) → ⊥
window_is_whole bytes head behind begins unfinished =
    unfinished.0 begins.tree _ (in_window head_limit bytes begins.tree behind begins.short begins.reads)

-- bytes that begin with a head are some bytes
head_has_bytes : (bytes : List ℕ) (head : Head) (behind : List ℕ) → BeginsWithHead bytes head behind → bytes ≡ [] → ⊥
head_has_bytes bytes head behind begins none =
    no_empty_head begins.tree behind (subst (λ (b : List ℕ). ReadsRequest b begins.tree behind) none begins.reads)

-- a head that gives a length has its body or not
no_lack : (bytes : List ℕ) (head : Head) (behind : List ℕ) (size : ℕ) → BeginsWithHead bytes head behind → body_length head ≡ Ok size
    → size ≤ length behind → LacksBody bytes → ⊥
no_lack bytes head behind size begins framed whole lacks =
    let same = head_unique bytes head lacks.head behind lacks.behind begins lacks.begins in
    let sizes = size_unique head lacks.head size lacks.size same.0 framed lacks.framed in
    let len = ap length same.1 in
    absurd (omega (arith, lacks.short, whole))

-- where a head is, the form of the bytes breaks nothing but a body
head_breaks : (bytes : List ℕ) (head : Head) (behind : List ℕ) (fault : WireFault) → BeginsWithHead bytes head behind → Breaks bytes fault
    → (LacksBody bytes × (fault ≡ Torn)) ⊎ IsOutside fault
head_breaks bytes head behind Ended begins none = absurd (head_has_bytes bytes head behind begins none)
head_breaks bytes head behind Torn begins (inl torn) = absurd (torn.0.0 begins.tree behind begins.reads)
head_breaks bytes head behind Torn begins (inr lacks) = inl (lacks, refl)
head_breaks bytes head behind BadHead begins bad = absurd (window_is_good bytes head behind begins bad)
head_breaks bytes head behind HeadTooLong begins long = absurd (window_is_whole bytes head behind begins long.0)
head_breaks bytes head behind Coding begins none = absurd none
head_breaks bytes head behind NoLength begins none = absurd none
head_breaks bytes head behind BodyTooLong begins none = absurd none
head_breaks bytes head behind NoRoute begins none = absurd none
head_breaks bytes head behind NoMethod begins none = absurd none
head_breaks bytes head behind NoId begins none = absurd none
head_breaks bytes head behind BadBody begins none = absurd none
head_breaks bytes head behind NoClock begins none = absurd none
head_breaks bytes head behind ReadFailed begins any = inr (inl refl)
head_breaks bytes head behind Memory begins any = inr (inr refl)

message_breaks : (bytes : List ℕ) (message : Message) (closes : Bool) (rest : List ℕ) (fault : WireFault) → BeginsWithMessage bytes message closes rest
    → (LacksBody bytes × (fault ≡ Torn)) ⊎ IsOutside fault → IsOutside fault
message_breaks bytes message closes rest fault x (inl lacks) = absurd (no_lack bytes x.head x.behind x.size x.begins x.framed x.whole lacks.0)
message_breaks bytes message closes rest fault x (inr outside) = outside

pub no_other_fault : NoOtherFault
no_other_fault bytes message closes rest fault x (inl refused) =
    absurd (no_refusal x.head refused.head x.size fault (head_unique bytes x.head refused.head x.behind refused.behind x.begins refused.begins).0 x.framed refused.framed)
no_other_fault bytes message closes rest fault x (inr breaks) = message_breaks bytes message closes rest fault x (head_breaks bytes x.head x.behind fault x.begins breaks)

-- what two faults of the same bytes are
abbrev AreOne : WireFault → WireFault → Type 0
AreOne a b = (a ≡ b) ⊎ (IsOutside a ⊎ IsOutside b)

two_refusals : (h k : Head) (a b : WireFault) → h ≡ k → body_length h ≡ Err a → body_length k ≡ Err b → a ≡ b
two_refusals h k a b same x y = cc

refused_or_torn : (bytes : List ℕ) (a b : WireFault) → RefusesHead bytes a → (LacksBody bytes × (b ≡ Torn)) ⊎ IsOutside b → IsOutside b
refused_or_torn bytes a b refused (inl lacks) =
    absurd (no_refusal lacks.0.head refused.head lacks.0.size a (head_unique bytes lacks.0.head refused.head lacks.0.behind refused.behind lacks.0.begins refused.begins).0 lacks.0.framed refused.framed)
refused_or_torn bytes a b refused (inr outside) = outside

refused_breaks : (bytes : List ℕ) (a b : WireFault) → RefusesHead bytes a → Breaks bytes b → IsOutside b
refused_breaks bytes a b refused breaks = refused_or_torn bytes a b refused (head_breaks bytes refused.head refused.behind b refused.begins breaks)

lacking_breaks : (bytes : List ℕ) (b : WireFault) → LacksBody bytes → (LacksBody bytes × (b ≡ Torn)) ⊎ IsOutside b → AreOne Torn b
lacking_breaks bytes b lacks (inl torn) = inl (sym torn.1)
lacking_breaks bytes b lacks (inr outside) = inr (inr outside)

no_bad_line_of_none : (n : ℕ) (bytes : List ℕ) → bytes ≡ [] → HasBadLine (take n bytes) → ⊥
no_bad_line_of_none n bytes none bad =
    let size : length (take n bytes) ≡ 0 = rw none (simp length-take (omega arith)) in
    let sizes = simp length-append at (ap length bad.split) in
    absurd (omega arith)

turned : (a b : WireFault) → AreOne b a → AreOne a b
turned a b (inl same) = inl (sym same)
turned a b (inr (inl outside)) = inr (inr outside)
turned a b (inr (inr outside)) = inr (inl outside)

-- bytes that are cut short of a head have no other fault
open_breaks : (bytes : List ℕ) (b : WireFault) → IsOpen bytes → 0 < length bytes → length bytes ≤ head_limit → Breaks bytes b → AreOne Torn b
open_breaks bytes Ended unfinished some short none = let e = ap length none in absurd (omega arith)
open_breaks bytes Torn unfinished some short torn = inl refl
open_breaks bytes BadHead unfinished some short bad = absurd (unfinished.1 (subst HasBadLine (take_all head_limit bytes short) bad))
open_breaks bytes HeadTooLong unfinished some short long = absurd (omega (arith, long.1))
open_breaks bytes Coding unfinished some short none = absurd none
open_breaks bytes NoLength unfinished some short none = absurd none
open_breaks bytes BodyTooLong unfinished some short none = absurd none
open_breaks bytes NoRoute unfinished some short none = absurd none
open_breaks bytes NoMethod unfinished some short none = absurd none
open_breaks bytes NoId unfinished some short none = absurd none
open_breaks bytes BadBody unfinished some short none = absurd none
open_breaks bytes NoClock unfinished some short none = absurd none
open_breaks bytes ReadFailed unfinished some short any = inr (inr (inl refl))
open_breaks bytes Memory unfinished some short any = inr (inr (inr refl))

torn_breaks : (bytes : List ℕ) (b : WireFault) → Breaks bytes Torn → Breaks bytes b → AreOne Torn b
torn_breaks bytes b (inl torn) breaks = open_breaks bytes b torn.0 torn.1 torn.2 breaks
torn_breaks bytes b (inr lacks) breaks = lacking_breaks bytes b lacks (head_breaks bytes lacks.head lacks.behind b lacks.begins breaks)

-- no bytes have no other fault
ended_breaks : (bytes : List ℕ) (b : WireFault) → bytes ≡ [] → Breaks bytes b → AreOne Ended b
ended_breaks bytes Ended none any = inl refl
ended_breaks bytes Torn none torn = turned Ended Torn (torn_breaks bytes Ended torn none)
ended_breaks bytes BadHead none bad = absurd (no_bad_line_of_none head_limit bytes none bad)
ended_breaks bytes HeadTooLong none long = let e = ap length none in absurd (omega (arith, long.1))
ended_breaks bytes Coding none any = absurd any
ended_breaks bytes NoLength none any = absurd any
ended_breaks bytes BodyTooLong none any = absurd any
ended_breaks bytes NoRoute none any = absurd any
ended_breaks bytes NoMethod none any = absurd any
ended_breaks bytes NoId none any = absurd any
ended_breaks bytes BadBody none any = absurd any
ended_breaks bytes NoClock none any = absurd any
ended_breaks bytes ReadFailed none any = inr (inr (inl refl))
ended_breaks bytes Memory none any = inr (inr (inr refl))

-- a bad line in the window allows no other fault
bad_breaks : (bytes : List ℕ) (b : WireFault) → HasBadLine (take head_limit bytes) → Breaks bytes b → AreOne BadHead b
bad_breaks bytes Ended bad none = turned BadHead Ended (ended_breaks bytes BadHead none bad)
bad_breaks bytes Torn bad torn = turned BadHead Torn (torn_breaks bytes BadHead torn bad)
bad_breaks bytes BadHead bad any = inl refl
bad_breaks bytes HeadTooLong bad long = absurd (long.0.1 bad)
bad_breaks bytes Coding bad any = absurd any
bad_breaks bytes NoLength bad any = absurd any
bad_breaks bytes BodyTooLong bad any = absurd any
bad_breaks bytes NoRoute bad any = absurd any
bad_breaks bytes NoMethod bad any = absurd any
bad_breaks bytes NoId bad any = absurd any
bad_breaks bytes BadBody bad any = absurd any
bad_breaks bytes NoClock bad any = absurd any
bad_breaks bytes ReadFailed bad any = inr (inr (inl refl))
bad_breaks bytes Memory bad any = inr (inr (inr refl))

-- an unfinished window with more bytes behind it allows no other fault
long_breaks : (bytes : List ℕ) (b : WireFault) → Breaks bytes HeadTooLong → Breaks bytes b → AreOne HeadTooLong b
long_breaks bytes Ended long none = turned HeadTooLong Ended (ended_breaks bytes HeadTooLong none long)
long_breaks bytes Torn long torn = turned HeadTooLong Torn (torn_breaks bytes HeadTooLong torn long)
long_breaks bytes BadHead long bad = absurd (long.0.1 bad)
long_breaks bytes HeadTooLong long any = inl refl
long_breaks bytes Coding long any = absurd any
long_breaks bytes NoLength long any = absurd any
long_breaks bytes BodyTooLong long any = absurd any
long_breaks bytes NoRoute long any = absurd any
long_breaks bytes NoMethod long any = absurd any
long_breaks bytes NoId long any = absurd any
long_breaks bytes BadBody long any = absurd any
long_breaks bytes NoClock long any = absurd any
long_breaks bytes ReadFailed long any = inr (inr (inl refl))
long_breaks bytes Memory long any = inr (inr (inr refl))

two_breaks : (bytes : List ℕ) (a b : WireFault) → Breaks bytes a → Breaks bytes b → AreOne a b
two_breaks bytes Ended b none other = ended_breaks bytes b none other
two_breaks bytes Torn b torn other = torn_breaks bytes b torn other
two_breaks bytes BadHead b bad other = bad_breaks bytes b bad other
two_breaks bytes HeadTooLong b long other = long_breaks bytes b long other
two_breaks bytes Coding b none other = absurd none
two_breaks bytes NoLength b none other = absurd none
two_breaks bytes BodyTooLong b none other = absurd none
two_breaks bytes NoRoute b none other = absurd none
two_breaks bytes NoMethod b none other = absurd none
two_breaks bytes NoId b none other = absurd none
two_breaks bytes BadBody b none other = absurd none
two_breaks bytes NoClock b none other = absurd none
two_breaks bytes ReadFailed b any other = inr (inl (inl refl))
two_breaks bytes Memory b any other = inr (inl (inr refl))

pub one_fault : OneFault
one_fault bytes a b (inl refused) (inl other) =
    inl (two_refusals refused.head other.head a b (head_unique bytes refused.head other.head refused.behind other.behind refused.begins other.begins).0 refused.framed other.framed)
one_fault bytes a b (inl refused) (inr breaks) = inr (inr (refused_breaks bytes a b refused breaks))
one_fault bytes a b (inr breaks) (inl refused) = inr (inl (refused_breaks bytes b a refused breaks))
one_fault bytes a b (inr breaks) (inr other) = two_breaks bytes a b breaks other
