-- The answer of a call that lends a builder back, with the builder in a struct and without.
-- For the walks of `Builder::add` and `Builder::extend`.
use Rattle.std.proofs.Common.{◌≡◌, sym, ap, subst, MutBor, Result, Ok, Err, IfOk, OnErr, MatchResult}
use Rattle.literal_packed.specs.BuilderValue.{BuilderValue}
use Rattle.literal_packed.specs.declared.api.LentBuilder.{LentBuilder}
use Rattle.literal_packed.specs.Lending.{HoldsAfterErr, LentHoldsAfterErr}

-- the same answer, with the builder out of its struct
abbrev pub Unwraps : {E : Type 0} → Result LentBuilder E → Result (MutBor BuilderValue) E → Type 0
Unwraps l r = MatchResult l (λ x. r ≡ Ok x.builder) (λ e. r ≡ Err e)

pub rests_of_lent : {E : Type 0} (P : BuilderValue → Type 0) (b : MutBor BuilderValue) (l : Result LentBuilder E)
    (r : Result (MutBor BuilderValue) E) → Unwraps l r → LentHoldsAfterErr P b l ≡ HoldsAfterErr P b r
rests_of_lent P b (Ok x) r e = ap (HoldsAfterErr P b) (sym e)
rests_of_lent P b (Err x) r e = ap (HoldsAfterErr P b) (sym e)

pub ok_of_lent : {E : Type 0} (P : MutBor BuilderValue → Type 0) (l : Result LentBuilder E)
    (r : Result (MutBor BuilderValue) E) → Unwraps l r → IfOk l (λ x. P x.builder) → IfOk r P
ok_of_lent P (Ok x) r e h = subst (λ z. IfOk z P) (sym e) h
ok_of_lent P (Err x) r e h = subst (λ z. IfOk z P) (sym e) h

pub err_of_lent : {E : Type 0} (P : Type 0) (l : Result LentBuilder E) (r : Result (MutBor BuilderValue) E)
    → Unwraps l r → OnErr l P → OnErr r P
err_of_lent P (Ok x) r e h = subst (λ z. OnErr z P) (sym e) h
err_of_lent P (Err x) r e h = subst (λ z. OnErr z P) (sym e) h
