-- Decided changes may be committed, and with their reply they are the state after the call.
use Rattle.std.proofs.Common.{◌≡◌, ℕ, ◌+◌, true, true≢false, List, Option, Some, None, MatchOption, option_map, option_and_then, position, refl, sym, ap, ◌∙◌, subst, rules}
use Rattle.std.specs.Prelude.{IfSome, IsSome, is_some}
use Rattle.std.specs.FinMap.{insert}
use Rattle.tb_board.specs.declared.change.Change.{Change}
use Rattle.tb_core.specs.declared.deciding.Decision.{Decision}
use Rattle.tb_board.specs.declared.world.Person.{Person}
use Rattle.tb_board.specs.declared.world.World.{World}
use Rattle.tb_core.specs.Apply.{IsDecision, apply}
use Rattle.tb_board.specs.Changing.{changed}
use Rattle.tb_board.specs.Extends.{Extends}
use Rattle.tb_core.specs.GoodWorld.{IsGoodWorld}
use Rattle.tb_core.specs.Shapes.{AreOfOne}
use Rattle.tb_board.specs.First.{IsFirst, IsNone}
use Rattle.tb_board.specs.World.{has_key, has_name, key_of, number_of}
use Rattle.tb_board.proofs.Places.{place}
use Rattle.tb_core.proofs.Extending.{extends}
use Rattle.tb_core.proofs.Stays.{stays_good}
use Rattle.tb_deeds.specs.declared.deed.Deed.{Deed}
use Rattle.tb_deeds.specs.Deeds.{deed_of}
use Rattle.tb_history.specs.History.{noted}
use Rattle.tb_calls.specs.declared.call.Call.{Call}
use Rattle.tb_calls.specs.declared.reply.Reply.{Reply}
use Rattle.tb_calls.specs.Call.{State, after_call, is_known, name_of, outcome}
use Rattle.tb_calls.specs.Reply.{reply_of}
use Rattle.tb_calls.specs.Keep.{IsDeedIn, IsNew, MayCommit, with_reply}
use Rattle.tb_desk.proofs.Deeds.{deed_in}

someone : (key : Option (List ℕ)) (shown : List ℕ) → has_key key shown ≡ true → IsSome key
someone None shown h = absurd (cc)
someone (Some k) shown h = search rules

-- a known caller has a key
pub known_is_some : (s : State) (c : Call) → is_known s c ≡ true → IsSome (key_of s.world c.member)
known_is_some s c h = someone _ c.key h

-- who has a key is there
is_there : (w : World) (name : List ℕ) → IsSome (key_of w name) → IsSome (number_of w name)
is_there w name known = by (position (has_name name) w.people) refl (place (has_name name) w.people)
  where
    by : (o : Option ℕ) → position (has_name name) w.people ≡ o → MatchOption o (IsNone (has_name name) w.people) (IsFirst (has_name name) w.people)
        → IsSome (option_map (λ at. at + 1) o)
    by (Some at) e first = refl
    by None e none = absurd (true≢false (sym known ∙ ap (λ found. is_some (option_and_then (λ (p : Person). p.key) found)) none.found))

-- the decision is that of the call in the state
abbrev pub IsMade : State → Call → Decision → Type 0
IsMade s c d = IsDecision s.world d (apply s.world c.member c.command c.moment)

-- the reply of the decision is that of the call
pub told_new : (s : State) (c : Call) (d : Decision) (r : Reply) → IsMade s c d → r ≡ reply_of d.answer → r ≡ reply_of (outcome s c).answer
unfolding outcome
told_new s c d r made told = told ∙ ap reply_of made.answer

pub may_commit : (s : State) (c : Call) (d : Decision) (changes : List Change) (deed : Option Deed) → changes ≡ d.changes → AreOfOne d.changes
    → deed ≡ deed_of s.world c.member c.command c.moment → IsGoodWorld s.world → IsNew s c → IsMade s c d → MayCommit s changes deed c
may_commit s c d changes deed same shape did good new made =
    let later = sym (ap (changed s.world) same ∙ made.world) in
    record {
      known = is_there s.world c.member (known_is_some s c new.known);
      new = new.new;
      good = subst IsGoodWorld later (stays_good s.world c.member c.command c.moment good);
      extends = subst (Extends s.world) later (extends s.world c.member c.command c.moment);
      shape = subst AreOfOne (sym same) shape;
      does = subst (λ w. IfSome deed (IsDeedIn w)) later (subst (λ o. IfSome o (IsDeedIn (apply s.world c.member c.command c.moment).world)) (sym did) (deed_in s.world c.member c.moment c.command));
    }

-- the state with the reply and the deed
abbrev answered_by : State → Call → World → Reply → Option Deed → State
answered_by s c w r deed =
    record {
      world = w;
      kept = insert s.kept (name_of c) (record { content = c.content; reply = r });
      history = noted s.history c.member c.id c.moment deed;
    }

pub with_reply-after_call : (s : State) (c : Call) (d : Decision) (changes : List Change) (deed : Option Deed) (r : Reply) → changes ≡ d.changes
    → deed ≡ deed_of s.world c.member c.command c.moment → IsMade s c d → r ≡ reply_of d.answer → with_reply s changes deed c r ≡ after_call s c
unfolding outcome
with_reply-after_call s c d changes deed r same did made told =
    ap (λ w. answered_by s c w r deed) (ap (changed s.world) same ∙ made.world)
    ∙ ap (λ q. answered_by s c (apply s.world c.member c.command c.moment).world q deed) (told ∙ ap reply_of made.answer)
    ∙ ap (answered_by s c (apply s.world c.member c.command c.moment).world (reply_of (apply s.world c.member c.command c.moment).answer)) did
