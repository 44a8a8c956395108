-- The messages of a whole stream.
use Rattle.std.proofs.Common.{◌≡◌, ℕ, Bool, List, [], ◌∷◌, ◌++◌, refl, sym, ap, ◌∙◌, subst, arith, inl, inr}
use Rattle.std.proofs.lemmas.List.{length-append, take-append-le, drop-append-le}
use Rattle.tb_http.specs.declared.fault.WireFault.TheVariants.{Ended, Torn}
use Rattle.tb_http.specs.declared.message.Message.{Message}
use Rattle.tb_http.specs.Message.{message_from}
use Rattle.tb_http.specs.Wire.{BeginsWithMessage}
use Rattle.tb_http.specs.Inbox.{IsUnfinished}
use Rattle.tb_http.specs.Laws.{IsOutside}
use Rattle.tb_http.specs.Stream.{Brings, BringsMore, OneStream, Received}
use Rattle.tb_http.proofs.ReadingLemmas.{no_other_fault, one_message}
use Rattle.tb_http.proofs.WireLemmas.{begins_more}

-- a message stays at the front with more bytes behind it
pub message_more : (bytes more : List ℕ) (message : Message) (closes : Bool) (rest : List ℕ)
    → BeginsWithMessage bytes message closes rest → BeginsWithMessage (bytes ++ more) message closes (rest ++ more)
message_more bytes more message closes rest x = record {
  head = x.head;
  behind = x.behind ++ more;
  begins = begins_more bytes more x.behind x.head x.begins;
  size = x.size;
  framed = x.framed;
  whole = omega (arith, x.whole, length-append x.behind more);
  says = x.says ∙ ap (message_from x.head) (sym (take-append-le x.size x.behind more x.whole));
  closing = x.closing;
  rest_is = ap (λ l. l ++ more) x.rest_is ∙ sym (drop-append-le x.size x.behind more x.whole);
}

pub brings_more : BringsMore
brings_more bytes more [] rest is = ap (λ l. l ++ more) is
brings_more bytes more (m ∷ ms) rest brings =
    (brings.0 ++ more, message_more bytes more m.message m.closes brings.0 brings.1, brings_more brings.0 more ms rest brings.2)

ended_inside : IsOutside Ended → ⊥
ended_inside (inl is) = absurd (cc)
ended_inside (inr is) = absurd (cc)

torn_inside : IsOutside Torn → ⊥
torn_inside (inl is) = absurd (cc)
torn_inside (inr is) = absurd (cc)

-- no message is at the front of what is unfinished
pub none_unfinished : (bytes : List ℕ) (message : Message) (closes : Bool) (rest : List ℕ) → BeginsWithMessage bytes message closes rest → IsUnfinished bytes → ⊥
none_unfinished bytes message closes rest x (inl ended) = ended_inside (no_other_fault bytes message closes rest Ended x (inr ended))
none_unfinished bytes message closes rest x (inr torn) = torn_inside (no_other_fault bytes message closes rest Torn x (inr torn))

same_received : (m n : Received) → m.message ≡ n.message → m.closes ≡ n.closes → m ≡ n
same_received m n message closes =
    let with_message : Message → Received = λ text. record { message = text; closes = m.closes } in
    let with_closes : Bool → Received = λ is. record { message = n.message; closes = is } in
    ap with_message message ∙ ap with_closes closes

pub one_stream : OneStream
one_stream bytes [] [] rest other reads done more ended = (refl, sym reads ∙ more)
one_stream bytes [] (n ∷ ns) rest other reads done more ended =
    absurd (none_unfinished bytes n.message n.closes more.0 more.1 (subst IsUnfinished (sym reads) done))
one_stream bytes (m ∷ ms) [] rest other reads done more ended =
    absurd (none_unfinished bytes m.message m.closes reads.0 reads.1 (subst IsUnfinished (sym more) ended))
one_stream bytes (m ∷ ms) (n ∷ ns) rest other reads done more ended =
    let same = one_message bytes m.message n.message m.closes n.closes reads.0 more.0 reads.1 more.1 in
    let behind : Brings reads.0 ns other = subst (λ (b : List ℕ). Brings b ns other) (sym same.2) more.2 in
    let rests = one_stream reads.0 ms ns rest other reads.2 done behind ended in
    let first = same_received m n same.0 same.1 in
    (ap (λ x. x ∷ ms) first ∙ ap (λ xs. n ∷ xs) rests.0, rests.1)
