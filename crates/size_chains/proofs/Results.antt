-- What an answer says where another one is given.
use Rattle.std.specs.Prelude.{Result, Ok, Err, IfOk, OnOk}

pub ok_map : {X E : Type 0} (P Q : X → Type 0) → ((x : X) → P x → Q x) → (r : Result X E) → IfOk r P → IfOk r Q
ok_map P Q f (Ok x) h = f x h
ok_map P Q f (Err e) h = tt

pub on_ok : {X E : Type 0} (P : X → Type 0) (Q : Type 0) → ((x : X) → P x → Q) → (r : Result X E) → IfOk r P → OnOk r Q
on_ok P Q f (Ok x) h = f x h
on_ok P Q f (Err e) h = tt

pub ok_two : {X E : Type 0} (P Q R : X → Type 0) → ((x : X) → P x → Q x → R x) → (r : Result X E) → IfOk r P → IfOk r Q → IfOk r R
ok_two P Q R f (Ok x) h k = f x h k
ok_two P Q R f (Err e) h k = tt

pub ok_four : {X E : Type 0} (P Q R S T : X → Type 0) → ((x : X) → P x → Q x → R x → S x → T x) → (r : Result X E) → IfOk r P → IfOk r Q → IfOk r R → IfOk r S → IfOk r T
ok_four P Q R S T f (Ok x) h k l m = f x h k l m
ok_four P Q R S T f (Err e) h k l m = tt
