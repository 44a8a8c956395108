-- Calls and views that follow one another.
use Rattle.std.proofs.Common.{◌≡◌, ◌∙◌, ℕ, ◌+◌, ◌<◌, Bool, false, true, ◌&&◌, List, [], ◌∷◌, ◌++◌, take, length, get_or, Result, Err, append_assoc, refl, sym, ap, subst, true≢false}
use Rattle.std.specs.Io.KnownBytes.{Appends}
use Rattle.std.proofs.lemmas.List.{append-nil, take_more}
use Rattle.tb_mine.specs.Asked.{AreOf, Asked, IsAskedFor, IsOf, Output, all_accepted, is_refusal, printed_by}
use Rattle.tb_mine.specs.declared.asks.Answer.{Answer}
use Rattle.tb_my.specs.Outcome.{Fails}
use Rattle.tb_my.specs.declared.fault.MyFault.{MyFault}
use Rattle.tb_my.specs.declared.fault.MyFault.TheVariants.{BadLine, Lacks, Linked, Memory, NoAttribute, NoBoard, NoDay, NoFilter, NoForm, NoOption, NoPlace, NoPriority, NoSeconds, NoStep, NoTask, NoWord, OneTask, TwoBoards, Unchanged, Unfit}
use Rattle.tb_my.specs.Days.{Text}
use Rattle.tb_my.specs.declared.sent.Sent.{Sent}
use Rattle.tb_values.proofs.Appends.{Appends-then}

-- a refusal is the one that is expected
pub refused_is : {X : Type 0} (fault : MyFault) (expected : Result X MyFault) → is_refusal fault ≡ true → Fails fault expected → expected ≡ Err fault
refused_is Memory expected p h = absurd (true≢false (sym p))
refused_is (NoWord word) expected p h = absurd (true≢false (sym p))
refused_is (NoForm word) expected p h = absurd (true≢false (sym p))
refused_is (NoDay word) expected p h = absurd (true≢false (sym p))
refused_is (NoPriority word) expected p h = absurd (true≢false (sym p))
refused_is (NoStep word) expected p h = absurd (true≢false (sym p))
refused_is (NoOption word) expected p h = absurd (true≢false (sym p))
refused_is (NoAttribute word) expected p h = absurd (true≢false (sym p))
refused_is (NoFilter word) expected p h = absurd (true≢false (sym p))
refused_is (NoSeconds word) expected p h = absurd (true≢false (sym p))
refused_is (NoTask word) expected p h = h
refused_is (NoPlace word) expected p h = h
refused_is OneTask expected p h = absurd (true≢false (sym p))
refused_is (Linked told) expected p h = h
refused_is Unchanged expected p h = h
refused_is (NoBoard name) expected p h = h
refused_is (TwoBoards name) expected p h = h
refused_is (BadLine line) expected p h = absurd (true≢false (sym p))
refused_is (Lacks setting) expected p h = absurd (true≢false (sym p))
refused_is (Unfit setting) expected p h = absurd (true≢false (sym p))

of_more : (all : List Sent) (list : List Asked) (sent : Sent) (asked : Asked) → AreOf all list → IsOf sent asked → AreOf (all ++ sent ∷ []) (list ++ asked ∷ [])
of_more [] [] sent asked are is = (is, tt)
of_more [] (a ∷ list) sent asked are is = absurd are
of_more (s ∷ all) [] sent asked are is = absurd are
of_more (s ∷ all) (a ∷ list) sent asked are is = (are.0, of_more all list sent asked are.1 is)

both_first : (x y z : Bool) → (x && (y && z)) ≡ (y && (x && z))
both_first true y z = refl
both_first false true z = refl
both_first false false z = refl

accepted_more : (list : List Asked) (asked : Asked) → all_accepted (list ++ asked ∷ []) ≡ (asked.answer.is_accepted && all_accepted list)
accepted_more [] asked = refl
accepted_more (a ∷ list) asked =
    ap (λ b. a.answer.is_accepted && b) (accepted_more list asked) ∙ both_first a.answer.is_accepted asked.answer.is_accepted (all_accepted list)

printed_more : (print : Sent → Answer → Text) (all : List Sent) (list : List Asked) (sent : Sent) (asked : Asked) → AreOf all list
    → printed_by print (all ++ sent ∷ []) (list ++ asked ∷ []) ≡ printed_by print all list ++ print sent asked.answer
printed_more print [] [] sent asked are = append-nil (print sent asked.answer)
printed_more print [] (a ∷ list) sent asked are = absurd are
printed_more print (s ∷ all) [] sent asked are = absurd are
printed_more print (s ∷ all) (a ∷ list) sent asked are =
    let first = print s a.answer in
    ap (λ text. first ++ text) (printed_more print all list sent asked are.1)
    ∙ sym (append_assoc first (printed_by print all list) (print sent asked.answer))

asked_more : (print : Sent → Answer → Text) (all : List Sent) (list : List Asked) (sent : Sent) (asked : Asked) (a b c : Output) (is : Bool)
    → IsAskedFor print all list a b is → IsOf sent asked → Appends b c (print sent asked.answer)
    → IsAskedFor print (all ++ sent ∷ []) (list ++ asked ∷ []) a c (asked.answer.is_accepted && is)
asked_more print all list sent asked a b c is so of printed = record {
  each = of_more all list sent asked so.each of;
  accepted = ap (λ so. asked.answer.is_accepted && so) so.accepted ∙ sym (accepted_more list asked);
  printed = subst (Appends a c) (sym (printed_more print all list sent asked so.each)) (Appends-then a b c _ _ so.printed printed);
}

-- so many were asked for
pub record Going {A : Type 0} (follows : List Asked → A → A → Type 0) (print : Sent → Answer → Text) (all : List Sent) (is : Bool) (before after : Output)
    (old new : A) : Type 0 where
  pub list : List Asked
  pub follow : follows list old new
  pub so : IsAskedFor print all list before after is

abbrev pub Joins : {A : Type 0} → (List Asked → A → A → Type 0) → Type 0
Joins {A} follows = (first more : List Asked) (a b c : A) → follows first a b → follows more b c → follows (first ++ more) a c

-- one that was asked for
abbrev pub IsOne : {A : Type 0} → (List Asked → A → A → Type 0) → (Sent → Answer → Text) → Sent → Output → Output → A → A → Bool → Type 0
IsOne follows print sent before after old new is = (asked : Asked) × follows (asked ∷ []) old new × IsOf sent asked × (is ≡ asked.answer.is_accepted)
    × Appends before after (print sent asked.answer)

pub going_on : {A : Type 0} (follows : List Asked → A → A → Type 0) (joined : Joins follows) (print : Sent → Answer → Text) (all : List Sent) (i : ℕ) (sent : Sent)
    (is one : Bool) (a b c : Output) (x y z : A) → i < length all → sent ≡ get_or all i sent
    → Going follows print (take i all) is a b x y → IsOne follows print sent b c y z one
    → Going follows print (take (i + 1) all) (one && is) a c x z
going_on follows joined print all i sent is one a b c x y z within at so now =
    let next : take (i + 1) all ≡ take i all ++ sent ∷ [] = take_more all i sent within ∙ ap (λ s. take i all ++ s ∷ []) (sym at) in
    let more = asked_more print (take i all) so.list sent now.0 a b c is so.so now.2 now.4 in
    record {
      list = so.list ++ now.0 ∷ [];
      follow = joined so.list (now.0 ∷ []) x y z so.follow now.1;
      so = subst (λ sents. IsAskedFor print sents (so.list ++ now.0 ∷ []) a c (one && is)) (sym next)
          (subst (λ b. IsAskedFor print (take i all ++ sent ∷ []) (so.list ++ now.0 ∷ []) a c (b && is)) (sym now.3) more);
    }
