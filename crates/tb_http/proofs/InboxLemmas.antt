-- What the bytes that came so far bring.
use Rattle.std.proofs.Common.{◌≡◌, ℕ, ◌+◌, ◌<◌, ◌≤◌, List, [], ◌∷◌, ◌++◌, length, take, drop, refl, sym, subst, arith, inl, inr, Err}
use Rattle.std.proofs.lemmas.List.{length-append, length-drop, take-append-le, take_all}
use Rattle.tb_http.specs.declared.fault.WireFault.{WireFault}
use Rattle.tb_http.specs.declared.fault.WireFault.TheVariants.{BadHead, HeadTooLong}
use Rattle.tb_http.specs.declared.begun.Begun.{Begun}
use Rattle.tb_http.specs.declared.message.Head.{Head}
use Rattle.tb_http.specs.declared.open_head.OpenHead.{OpenHead}
use Rattle.tb_http.specs.Head.{HasBadLine}
use Rattle.tb_http.specs.declared.message.Message.{Message}
use Rattle.tb_http.specs.Message.{message_from}
use Rattle.tb_http.specs.OpenHead.{IsOpenHead}
use Rattle.tb_http.specs.Wire.{head_limit, BeginsWithHead, BeginsWithMessage, IsOpen}
use Rattle.tb_http.specs.Inbox.{HasFault, IsBegun, IsUnfinished}
use Rattle.tb_http.specs.Framing.{body_length}
use Rattle.tb_http.proofs.OpenHeadLemmas.{open_head_is_open}
use Rattle.tb_http.proofs.WireLemmas.{bad_window, begins_grown, begins_more}

pub bad_whatever : (held : List ℕ) → HasBadLine (take head_limit held) → HasFault held BadHead
bad_whatever held bad more = inr (bad_window head_limit held more bad)

pub too_long_whatever : (held : List ℕ) → IsOpen (take head_limit held) → head_limit < length held → HasFault held HeadTooLong
too_long_whatever held unfinished long more =
    inr (subst IsOpen (sym (take-append-le head_limit held more (omega arith))) unfinished, simp length-append (omega arith))

pub refused_whatever : (held behind : List ℕ) (head : Head) (fault : WireFault) → BeginsWithHead held head behind → Err fault ≡ body_length head → HasFault held fault
refused_whatever held behind head fault begins framed more =
    inl (record { head = head; behind = behind ++ more; begins = begins_more held more behind head begins; framed = sym framed })

-- an open head that isn't too long
pub open_is_unfinished : (held : List ℕ) → IsOpen held → length held ≤ head_limit → IsUnfinished held
open_is_unfinished [] is_open short = inl refl
open_is_unfinished (b ∷ held) is_open short = inr (inl (is_open, omega arith, short))

pub open_unfinished : (held : List ℕ) → IsOpen (take head_limit held) → length held ≤ head_limit → IsUnfinished held
open_unfinished held is_open short = open_is_unfinished held (subst IsOpen (take_all head_limit held short) is_open) short

-- a head whose last line has no end in all that came
pub awaits_line : (held : List ℕ) (so_far : OpenHead) → IsOpenHead held so_far → so_far.searched ≡ length held → length held ≤ head_limit → IsUnfinished held
awaits_line held so_far is all short = open_is_unfinished held (open_head_is_open held so_far is all) short

-- a body that has not come whole
pub lacks_body : (held : List ℕ) (begun : Begun) → IsBegun held begun → length held < begun.len + begun.size → IsUnfinished held
lacks_body held begun is short = inr (inr (record {
  head = begun.head;
  behind = drop begun.len held;
  begins = is.begins;
  size = begun.size;
  framed = is.framed;
  short = omega (arith, length-drop begun.len held, is.inside);
}))

-- what was begun stays so with more bytes behind it
pub begun_more : (held more : List ℕ) (begun : Begun) → IsBegun held begun → IsBegun (held ++ more) begun
begun_more held more begun is = record {
  inside = omega (arith, is.inside, length-append held more);
  bound = is.bound;
  begins = begins_grown held more begun.len begun.head is.inside is.begins;
  framed = is.framed;
  closing = is.closing;
}

-- a message whose body is whole is at the front
pub begun_message : (held rest : List ℕ) (begun : Begun) (message : Message) → IsBegun held begun → begun.len + begun.size ≤ length held
    → message ≡ message_from begun.head (take begun.size (drop begun.len held)) → rest ≡ drop begun.size (drop begun.len held)
    → BeginsWithMessage held message begun.closes rest
begun_message held rest begun message is whole says rest_is = record {
  head = begun.head;
  behind = drop begun.len held;
  begins = is.begins;
  size = begun.size;
  framed = is.framed;
  whole = omega (arith, length-drop begun.len held);
  says = says;
  closing = is.closing;
  rest_is = rest_is;
}
