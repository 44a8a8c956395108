-- Faults of the parts of an order are faults of it.
use Rattle.std.proofs.Common.{◌≡◌, true, true≢false, refl, sym}
use Rattle.tb_orders.specs.Telling as orders
use Rattle.tb_orders.specs.Faults.{is_of_files, is_of_opening, is_of_printing}
use Rattle.tb_orders.specs.NewKey.{is_of_giving, is_of_new_keys}
use Rattle.tb_program.specs.declared.fault.Fault.{Fault}
use Rattle.tb_program.specs.declared.fault.Fault.TheVariants.{Bad, BadBody, Memory, NoAnswer, NoClock, NoKey, NoListen, NoPage, NotEmpty, NotOurs, ReadFailed, Store, WriteFailed, WrongVersion}
use Rattle.tb_files.specs.Faults.{is_of_checking, is_of_imports, is_of_keys, is_of_showing, is_of_views}

pub of_input : (fault : Fault) → orders.is_of_inputs fault ≡ true → is_of_imports fault ≡ true
of_input Bad is = absurd (true≢false (sym is))
of_input BadBody is = refl
of_input Memory is = refl
of_input NoClock is = refl
of_input NoListen is = absurd (true≢false (sym is))
of_input NoAnswer is = absurd (true≢false (sym is))
of_input NoKey is = absurd (true≢false (sym is))
of_input NoPage is = absurd (true≢false (sym is))
of_input NotEmpty is = absurd (true≢false (sym is))
of_input NotOurs is = refl
of_input ReadFailed is = refl
of_input Store is = refl
of_input WriteFailed is = refl
of_input WrongVersion is = refl

pub of_audit : (fault : Fault) → is_of_printing fault ≡ true → orders.is_of_answers fault ≡ true
of_audit Bad is = absurd (true≢false (sym is))
of_audit BadBody is = absurd (true≢false (sym is))
of_audit Memory is = refl
of_audit NoClock is = absurd (true≢false (sym is))
of_audit NoListen is = absurd (true≢false (sym is))
of_audit NoAnswer is = absurd (true≢false (sym is))
of_audit NoKey is = absurd (true≢false (sym is))
of_audit NoPage is = absurd (true≢false (sym is))
of_audit NotEmpty is = absurd (true≢false (sym is))
of_audit NotOurs is = absurd (true≢false (sym is))
of_audit ReadFailed is = absurd (true≢false (sym is))
of_audit Store is = absurd (true≢false (sym is))
of_audit WriteFailed is = refl
of_audit WrongVersion is = absurd (true≢false (sym is))

pub of_keep : (fault : Fault) → orders.is_of_answers fault ≡ true → is_of_checking fault ≡ true
of_keep Bad is = absurd (true≢false (sym is))
of_keep BadBody is = absurd (true≢false (sym is))
of_keep Memory is = refl
of_keep NoClock is = absurd (true≢false (sym is))
of_keep NoListen is = absurd (true≢false (sym is))
of_keep NoAnswer is = absurd (true≢false (sym is))
of_keep NoKey is = absurd (true≢false (sym is))
of_keep NoPage is = absurd (true≢false (sym is))
of_keep NotEmpty is = absurd (true≢false (sym is))
of_keep NotOurs is = refl
of_keep ReadFailed is = absurd (true≢false (sym is))
of_keep Store is = refl
of_keep WriteFailed is = refl
of_keep WrongVersion is = refl

pub of_showing : (fault : Fault) → orders.is_of_answers fault ≡ true → is_of_showing fault ≡ true
of_showing Bad is = absurd (true≢false (sym is))
of_showing BadBody is = absurd (true≢false (sym is))
of_showing Memory is = refl
of_showing NoClock is = absurd (true≢false (sym is))
of_showing NoListen is = absurd (true≢false (sym is))
of_showing NoAnswer is = absurd (true≢false (sym is))
of_showing NoKey is = absurd (true≢false (sym is))
of_showing NoPage is = absurd (true≢false (sym is))
of_showing NotEmpty is = absurd (true≢false (sym is))
of_showing NotOurs is = absurd (true≢false (sym is))
of_showing ReadFailed is = absurd (true≢false (sym is))
of_showing Store is = refl
of_showing WriteFailed is = refl
of_showing WrongVersion is = absurd (true≢false (sym is))

pub of_view : (fault : Fault) → is_of_showing fault ≡ true → is_of_views fault ≡ true
of_view Bad is = absurd (true≢false (sym is))
of_view BadBody is = absurd (true≢false (sym is))
of_view Memory is = refl
of_view NoClock is = refl
of_view NoListen is = absurd (true≢false (sym is))
of_view NoAnswer is = absurd (true≢false (sym is))
of_view NoKey is = absurd (true≢false (sym is))
of_view NoPage is = absurd (true≢false (sym is))
of_view NotEmpty is = absurd (true≢false (sym is))
of_view NotOurs is = absurd (true≢false (sym is))
of_view ReadFailed is = absurd (true≢false (sym is))
of_view Store is = refl
of_view WriteFailed is = refl
of_view WrongVersion is = absurd (true≢false (sym is))

pub of_opening : (fault : Fault) → is_of_opening fault ≡ true → is_of_imports fault ≡ true
of_opening Bad is = absurd (true≢false (sym is))
of_opening BadBody is = absurd (true≢false (sym is))
of_opening Memory is = refl
of_opening NoClock is = absurd (true≢false (sym is))
of_opening NoListen is = absurd (true≢false (sym is))
of_opening NoAnswer is = absurd (true≢false (sym is))
of_opening NoKey is = absurd (true≢false (sym is))
of_opening NoPage is = absurd (true≢false (sym is))
of_opening NotEmpty is = absurd (true≢false (sym is))
of_opening NotOurs is = refl
of_opening ReadFailed is = absurd (true≢false (sym is))
of_opening Store is = refl
of_opening WriteFailed is = absurd (true≢false (sym is))
of_opening WrongVersion is = refl

pub of_new_key : (fault : Fault) → is_of_new_keys fault ≡ true → is_of_keys fault ≡ true
of_new_key Bad is = absurd (true≢false (sym is))
of_new_key BadBody is = absurd (true≢false (sym is))
of_new_key Memory is = refl
of_new_key NoClock is = refl
of_new_key NoListen is = absurd (true≢false (sym is))
of_new_key NoAnswer is = absurd (true≢false (sym is))
of_new_key NoKey is = refl
of_new_key NoPage is = absurd (true≢false (sym is))
of_new_key NotEmpty is = absurd (true≢false (sym is))
of_new_key NotOurs is = refl
of_new_key ReadFailed is = refl
of_new_key Store is = refl
of_new_key WriteFailed is = refl
of_new_key WrongVersion is = refl

pub of_giving : (fault : Fault) → is_of_giving fault ≡ true → is_of_keys fault ≡ true
of_giving Bad is = absurd (true≢false (sym is))
of_giving BadBody is = absurd (true≢false (sym is))
of_giving Memory is = refl
of_giving NoClock is = refl
of_giving NoListen is = absurd (true≢false (sym is))
of_giving NoAnswer is = absurd (true≢false (sym is))
of_giving NoKey is = refl
of_giving NoPage is = absurd (true≢false (sym is))
of_giving NotEmpty is = absurd (true≢false (sym is))
of_giving NotOurs is = refl
of_giving ReadFailed is = refl
of_giving Store is = refl
of_giving WriteFailed is = refl
of_giving WrongVersion is = refl

pub of_keyed : (fault : Fault) → is_of_opening fault ≡ true → is_of_keys fault ≡ true
of_keyed Bad is = absurd (true≢false (sym is))
of_keyed BadBody is = absurd (true≢false (sym is))
of_keyed Memory is = refl
of_keyed NoClock is = refl
of_keyed NoListen is = absurd (true≢false (sym is))
of_keyed NoAnswer is = absurd (true≢false (sym is))
of_keyed NoKey is = refl
of_keyed NoPage is = absurd (true≢false (sym is))
of_keyed NotEmpty is = absurd (true≢false (sym is))
of_keyed NotOurs is = refl
of_keyed ReadFailed is = refl
of_keyed Store is = refl
of_keyed WriteFailed is = refl
of_keyed WrongVersion is = refl

pub of_files : (fault : Fault) → is_of_files fault ≡ true → is_of_opening fault ≡ true
of_files Bad is = absurd (true≢false (sym is))
of_files BadBody is = absurd (true≢false (sym is))
of_files Memory is = refl
of_files NoClock is = absurd (true≢false (sym is))
of_files NoListen is = absurd (true≢false (sym is))
of_files NoAnswer is = absurd (true≢false (sym is))
of_files NoKey is = absurd (true≢false (sym is))
of_files NoPage is = absurd (true≢false (sym is))
of_files NotEmpty is = absurd (true≢false (sym is))
of_files NotOurs is = refl
of_files ReadFailed is = absurd (true≢false (sym is))
of_files Store is = refl
of_files WriteFailed is = absurd (true≢false (sym is))
of_files WrongVersion is = refl
