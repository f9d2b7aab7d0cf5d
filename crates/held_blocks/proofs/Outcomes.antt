-- Facts on the two outcomes of a call, from other ones.
use Rattle.std.proofs.Common.{◌≡◌, Bool, Option, Some, None, IfSome, IfNone, OnOk, Ok, Err, Result}
use Rattle.std.specs.Bool.{OnTrue, OnFalse}
use Rattle.std.specs.Option.{is_some}

pub on_ok : {T E : Type 0} (r : Result T E) (P Q : Type 0) → (P → Q) → OnOk r P → OnOk r Q
on_ok (Ok x) P Q f h = f h
on_ok (Err e) P Q f h = tt

pub on_ok_and : {T E : Type 0} (r : Result T E) (P Q R : Type 0) → (P → Q → R) → OnOk r P
    → OnOk r Q → OnOk r R
on_ok_and (Ok x) P Q R f h k = f h k
on_ok_and (Err e) P Q R f h k = tt

pub if_some : {T : Type 0} (o : Option T) (P Q : T → Type 0) → ((x : T) → P x → Q x) → IfSome o P
    → IfSome o Q
if_some None P Q f h = tt
if_some (Some x) P Q f h = f x h

pub if_none : {T : Type 0} (o : Option T) (P Q : Type 0) → (P → Q) → IfNone o P → IfNone o Q
if_none None P Q f h = f h
if_none (Some x) P Q f h = tt

pub none_when : {T : Type 0} (o : Option T) (P : Type 0) → P → IfNone o P
none_when None P h = h
none_when (Some x) P h = tt

pub true_if_some : {T : Type 0} (o : Option T) (b : Bool) (P : T → Type 0) (Q : Type 0)
    → b ≡ is_some o → ((x : T) → P x → Q) → IfSome o P → OnTrue b Q
true_if_some None b P Q e f h = rw e tt
true_if_some (Some x) b P Q e f h = rw e (f x h)

pub false_if_none : {T : Type 0} (o : Option T) (b : Bool) (P : Type 0) → b ≡ is_some o
    → IfNone o P → OnFalse b P
false_if_none None b P e h = rw e h
false_if_none (Some x) b P e h = rw e tt
