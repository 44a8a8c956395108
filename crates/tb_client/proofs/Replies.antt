-- What the grammar's clauses say of a whole answer.
use Rattle.std.proofs.Common.{◌≡◌, ◌≢◌, ◌∙◌, ℕ, ◌≤◌, Bool, true, false, cond, List, map, length, take, drop, Some, None, Result, Ok, Err, refl, sym, ap, subst, arith}
use Rattle.std.proofs.lemmas.List.{length-map, length-take-le}
use Rattle.httparse.specs.Grammar.{ResponseHead, ReadsResponse, status_code}
use Rattle.httparse.specs.Spans.{FindsResponse, IsResponseAt, header_bytes, name_and_value}
use Rattle.httparse.specs.declared.Error.{Error}
use Rattle.httparse.specs.declared.Status.{Status}
use Rattle.httparse.specs.declared.Status.TheVariants.{Complete, Partial}
use Rattle.httparse.specs.declared.spans.HeaderSpan.{HeaderSpan}
use Rattle.httparse.specs.declared.spans.ResponseSpans.{ResponseSpans}
use Rattle.httparse.proofs.GrammarLemmas.{response_unique}
use Rattle.tb_client.specs.declared.answer.Reply.{Reply}
use Rattle.std.proofs.lemmas.Str.{IsUtf8-from_is_utf8, is_utf8-from_IsUtf8}
use Rattle.std.specs.Str.{IsUtf8, is_utf8}
use Rattle.tb_client.specs.Answer.{IsWholeAnswer, asks_again, fields_of, size_of, text_in}
use Rattle.tb_client.specs.Asking.{BringsNone}

-- the fields of the tree are those that the spans cover
same_size : (bytes : List ℕ) (headers : List HeaderSpan) (spans : ResponseSpans) (h : ResponseHead) → IsResponseAt bytes headers spans h
    → size_of (map (header_bytes bytes) (take spans.headers headers)) ≡ size_of (fields_of h)
same_size bytes headers spans h at = ap size_of at.fields

few_fields : (bytes : List ℕ) (headers : List HeaderSpan) (spans : ResponseSpans) (h : ResponseHead) → IsResponseAt bytes headers spans h
    → spans.headers ≤ length headers → length headers ≡ 64 → length h.fields ≤ 64
few_fields bytes headers spans h at fits room =
    let covered = length-map (take spans.headers headers) (header_bytes bytes) in
    let named = length-map h.fields name_and_value in
    let taken = length-take-le spans.headers headers fits in
    let same = ap length at.fields in
    omega arith

pub whole_reply : (bytes : List ℕ) (headers : List HeaderSpan) (spans : ResponseSpans) (h : ResponseHead) (reply : Reply) → IsResponseAt bytes headers spans h
    → spans.headers ≤ length headers → length headers ≡ 64 → size_of (map (header_bytes bytes) (take spans.headers headers)) ≡ Some (length reply.body)
    → reply.status ≡ spans.code → reply.body ≡ drop spans.len bytes → IsWholeAnswer bytes reply
whole_reply bytes headers spans h reply at fits room size status body = record {
  tree = h;
  reads = subst (ReadsResponse bytes h) (sym body) at.reads;
  few = few_fields bytes headers spans h at fits room;
  whole = sym (same_size bytes headers spans h at) ∙ size;
  status_is = status ∙ at.code;
}

-- bytes that the parser doesn't take whole are no answer
pub no_reply : (bytes : List ℕ) (headers : List HeaderSpan) (r : Result (Status ResponseSpans) Error) → FindsResponse bytes 64 headers r
    → ((spans : ResponseSpans) → r ≢ Ok (Complete spans)) → (reply : Reply) → IsWholeAnswer bytes reply → ⊥
no_reply bytes headers (Ok (Complete spans)) finds none reply is = none spans refl
no_reply bytes headers (Ok Partial) finds none reply is = finds is.tree reply.body is.reads is.few
no_reply bytes headers (Err e) finds none reply is = finds is.tree reply.body is.reads is.few

-- and neither is a head whose fields say another size than what is behind it has
pub other_size : (bytes : List ℕ) (headers : List HeaderSpan) (spans : ResponseSpans) → FindsResponse bytes 64 headers (Ok (Complete spans))
    → size_of (map (header_bytes bytes) (take spans.headers headers)) ≢ Some (length (drop spans.len bytes)) → (reply : Reply) → IsWholeAnswer bytes reply → ⊥
other_size bytes headers spans finds other reply is =
    let at = finds is.tree reply.body is.reads is.few in
    let behind = (response_unique bytes is.tree is.tree reply.body (drop spans.len bytes) is.reads at.reads).1 in
    other (same_size bytes headers spans is.tree at ∙ (is.whole ∙ ap (λ b. Some (length b)) behind))

-- two whole answers of the same bytes have one status
pub one_status : (bytes : List ℕ) (a b : Reply) → IsWholeAnswer bytes a → IsWholeAnswer bytes b → a.status ≡ b.status
one_status bytes a b x y = x.status_is ∙ (ap status_code (response_unique bytes x.tree y.tree a.body b.body x.reads y.reads).0 ∙ sym y.status_is)

pub brings_none : (came : List ℕ) → ((reply : Reply) → IsWholeAnswer came reply → ⊥) → BringsNone came
brings_none came none reply is = absurd (none reply is)

pub brings_again : (came : List ℕ) (r : Reply) → IsWholeAnswer came r → asks_again r.status ≡ true → BringsNone came
brings_again came r is again reply other = ap asks_again (one_status came reply r other is) ∙ again

-- ---- values that are text

pub text_there : (value : List ℕ) → IsUtf8 value → text_in value ≡ Some value
text_there value is = ap (λ b. cond b (Some value) None) (is_utf8-from_IsUtf8 value is)

none_where : (b : Bool) (bytes : List ℕ) → is_utf8 bytes ≡ b → (IsUtf8 bytes → ⊥) → cond b (Some bytes) None ≡ None
none_where true bytes e h = absurd (h (IsUtf8-from_is_utf8 bytes e))
none_where false bytes e h = refl

pub no_text_there : (value : List ℕ) → (IsUtf8 value → ⊥) → text_in value ≡ None
no_text_there value isnt = none_where (is_utf8 value) value refl isnt
