-- Methods and targets of the grammar's heads.
use Rattle.std.proofs.Common.{ℕ, List, sym, subst, IsTrue}
use Rattle.std.specs.Prelude.{IsUtf8}
use Rattle.std.proofs.lemmas.List.Elements.{All-weaker}
use Rattle.httparse.specs.Grammar as grammar
use Rattle.httparse.specs.declared.spans.HeaderSpan.{HeaderSpan}
use Rattle.httparse.specs.declared.spans.RequestSpans.{RequestSpans}
use Rattle.httparse.specs.Spans.{IsRequestOf, span_bytes}
use Rattle.http_header.specs.Token as token

token_byte : (byte : ℕ) → IsTrue (grammar.is_token_byte byte) → IsTrue (token.is_token_byte byte)
unfolding grammar.is_token_byte token.is_token_byte
token_byte byte passes = passes

-- the two crates' tokens are the same
pub token_is_token : (text : List ℕ) → grammar.IsToken text → token.IsToken text
token_is_token text is = (is.0, All-weaker _ (λ byte. IsTrue (token.is_token_byte byte)) token_byte text is.1)

pub method_is_token : (bytes : List ℕ) (headers : List HeaderSpan) (spans : RequestSpans) → IsRequestOf bytes headers spans
    → grammar.IsToken (span_bytes bytes spans.method)
method_is_token bytes headers spans found = subst grammar.IsToken (sym found.1.method) found.1.reads.0.method

pub target_is_text : (bytes : List ℕ) (headers : List HeaderSpan) (spans : RequestSpans) → IsRequestOf bytes headers spans
    → IsUtf8 (span_bytes bytes spans.path)
target_is_text bytes headers spans found = subst IsUtf8 (sym found.1.path) found.1.reads.0.target_text
