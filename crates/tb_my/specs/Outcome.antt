-- What a reader of words returned, beside what its definition gives.
use Rattle.std.specs.Prelude.{◌≡◌, Result, Ok, Err, Option, Some, None}
use Rattle.tb_values.specs.Outcome.{Gives}
use Rattle.tb_my.specs.declared.fault.MyFault.{MyFault}
use Rattle.tb_my.specs.declared.fault.MyFault.TheVariants.{BadLine, Lacks, Linked, Memory, NoAttribute, NoBoard, NoDay, NoFilter, NoForm, NoOption, NoPlace, NoPriority, NoSeconds, NoStep, NoTask, NoWord, OneTask, TwoBoards, Unchanged, Unfit}

-- the fault is the one that is expected, unless memory ran out
abbrev pub Fails : {X : Type 0} → MyFault → Result X MyFault → Type 0
Fails Memory expected = Unit {0}
Fails (NoWord word) expected = expected ≡ Err (NoWord word)
Fails (NoForm word) expected = expected ≡ Err (NoForm word)
Fails (NoDay word) expected = expected ≡ Err (NoDay word)
Fails (NoPriority word) expected = expected ≡ Err (NoPriority word)
Fails (NoStep word) expected = expected ≡ Err (NoStep word)
Fails (NoOption word) expected = expected ≡ Err (NoOption word)
Fails (NoAttribute word) expected = expected ≡ Err (NoAttribute word)
Fails (NoFilter word) expected = expected ≡ Err (NoFilter word)
Fails (NoSeconds word) expected = expected ≡ Err (NoSeconds word)
Fails (NoTask word) expected = expected ≡ Err (NoTask word)
Fails (NoPlace word) expected = expected ≡ Err (NoPlace word)
Fails OneTask expected = expected ≡ Err OneTask
Fails (Linked told) expected = expected ≡ Err (Linked told)
Fails Unchanged expected = expected ≡ Err Unchanged
Fails (NoBoard name) expected = expected ≡ Err (NoBoard name)
Fails (TwoBoards name) expected = expected ≡ Err (TwoBoards name)
Fails (BadLine line) expected = expected ≡ Err (BadLine line)
Fails (Lacks name) expected = expected ≡ Err (Lacks name)
Fails (Unfit name) expected = expected ≡ Err (Unfit name)

-- what was read is what is expected, unless memory ran out
abbrev pub Reads : {X : Type 0} → Result X MyFault → Result X MyFault → Type 0
Reads read expected = Gives Fails read expected

-- what is there, or the fault
abbrev pub or_fault : {X : Type 0} → MyFault → Option X → Result X MyFault
or_fault fault (Some x) = Ok x
or_fault fault None = Err fault
