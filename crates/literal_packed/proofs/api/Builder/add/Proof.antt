use Rattle.std.proofs.Common.{◌≡◌, [], ◌∷◌, refl, MutBor, Result, IfOk, OnErr}
use Rattle.std.proofs.raw_atomic.Walks.{proved}
use Rattle.std.specs.contracts.result.Result as RS
use base.Fml.{ftrue, flft}
use base.Logic.{id⊢, emp}
use contract.Monad.{fact, fact_i}
use contract.Running.{tables}
use denote.Builtin.{u8, RefMutOf, SliceRefOf}
use denote.Enum.Declared.{shape}
use denote.Enum.Enum.{Enum-Lawful}
use denote.Exit.{yes, no}
use denote.Laws.{Is, shows}
use denote.Slice.{shr_slice_vals, shr_slice_Tells}
use denote.Ref.{MutRef, mut_vals, mut_Tells, mut_Lawful}
use denote.Signature.{named_lft, plain}
use denote.Steps.{nothing, peeks, heard}
use denote.Triple.Call.{calls_at}
use denote.Triple.Clauses.{Lasts, lasts}
use denote.Triple.Spec.{triple_of}
use denote.Triple.Table.{framed}
use denote.Triple.Walked.{Stays, stay_dropped, Goes-dropped, ends_at}
use mir.Syntax.{named}
use types.ByLocal.{alloc_all, pass_all, free_all, look_at, get, through, sets, lands_as}
use types.Kit.{‵, raw, ◌⊛◌, later, some, ◌$◌, ◌∵◌, !, qed, done, move, drop, group, use0, use1, use2, split, join, pick}
use types.Kit.{await, rewrite, suffices}
use types.Run.{enter, addr, stop, no_more, and_then, returns}
use Rattle.std.specs.declared.alloc.AllocError.{AllocError}
use Rattle.std.specs.contracts.alloc.AllocError.{the_row as E}
use Rattle.std.proofs.alloc.AllocError.TheLaws.{the_row_laws as refusal_laws}
use Rattle.literal_packed.specs.BuilderValue.{BuilderValue}
use Rattle.literal_packed.specs.State.{WouldKeep}
use Rattle.literal_packed.specs.BuilderValue.{with_added}
use Rattle.literal_packed.specs.Lending.{LentHoldsAfterErr}
use Rattle.literal_packed.specs.declared.api.LentBuilder.{LentBuilder}
use Rattle.literal_packed.specs.contracts.api.Builder.{the_row as R}
use Rattle.literal_packed.specs.contracts.api.LentBuilder.{the_row as lent_row}
use Rattle.literal_packed.proofs.api.LentBuilder.TheLaws.{the_row_laws as lent_laws}
use Rattle.literal_packed.proofs.lemmas.Lending.{Unwraps, rests_of_lent, ok_of_lent, err_of_lent}
use Rattle.literal_packed.specs.contracts.api.Builder.try_add as g
use Rattle.literal_packed.proofs.api.Builder.try_add.Met.{met as try_add_met}
use Rattle.literal_packed.specs.contracts.api.unwrapped as h
use Rattle.literal_packed.proofs.api.unwrapped.Met.{met as unwrapped_met}
use Rattle.literal_packed.specs.contracts.api.Builder.add as f
use Rattle.literal_packed.proofs.api.Builder.add.Statement.{statement}
use Rattle.literal_packed.proofs.api.Builder.add.Code as code

abbrev stayed : Stays f.ended.signature.params f.ended.kept
stayed = (stay_dropped _ no, (stay_dropped _ yes, tt))

pub add_spec : {M : Type 1} → statement M
add_spec 𝓤 𝓛 𝓜 𝓡 wired =
    let c = f.clauses 𝓛 𝓜.mem 𝓡.returns in let F = framed 𝓤 𝓛.H 𝓜 (tables 𝓤 𝓛.H 𝓜 𝓡 𝓡.env) in
    proved 𝓛 f.ended stayed c 𝓜 𝓡 (
      Goes-dropped 𝓛 2 (RefMutOf (0 ∷ []) tt (plain (λ _. R)) (λ _. tt)) no
          (λ κs x w. refl),
      (
        Goes-dropped 𝓛 2 (SliceRefOf (1 ∷ []) tt (plain (λ _. u8)) (λ _. tt)) yes (λ κs x w. refl),
        tt,
      ),
    )
    f.Key.name code.function (code.unfolded 𝓤 𝓛.H 𝓜 𝓡 wired)
    (λ κs. (mut_vals, (shr_slice_vals, tt))) (λ κs.
    (mut_Tells (named 0) κs.0 R, (shr_slice_Tells (named 1) κs.1.0 u8, tt))) (λ κs qs bounds a _ are.
    let G = triple_of 𝓛 g.signature (g.spec 𝓛 𝓜.mem 𝓡.returns) in
    let K = triple_of 𝓛 h.signature (h.spec 𝓛 𝓜.mem 𝓡.returns) in
    let y : G.Ghost = ((κs, qs, bounds, a, (mut_vals a.0, (shr_slice_vals a.1.0, tt))), tt) in
    let κ = ‵ (flft κs.0 qs.0) in let others = ‵ (flft κs.1.0 qs.1.0) ⊛ ‵ ftrue in
    let X = RS.the_row (lent_row (named_lft 2 0 tt κs)) E in let Y = RS.the_row (MutRef (named 0) κs.0 R) E in
    let Named = λ (b : MutBor BuilderValue). b.ghost_name ≡ a.0.ghost_name in
    let Added = λ (b : MutBor BuilderValue). b.now ≡ with_added a.0.now (a.1.0.now ∷ []) in
    let Refused = WouldKeep a.0.now.config.pattern_limit a.0.now.state a.1.0.now in
    qed 𝓛 (raw (G.pre y) ∷ []) ∵ enter ! _ _ _ _ _ $ alloc_all !
    (λ l. pass_all ! refl ((tt, tt), ((tt, (tt, (record { fits = are.1.0.0.1.0 }, tt))), tt)) $
    sets ! (addr ! (through ! refl (stop !))) refl (tt, tt) $
    calls_at ! F G (try_add_met 𝓤 𝓛 𝓜 𝓡 (code.calls-literal_packed::api::Builder::try_add 𝓡.env wired)) y
    (and_then ! (get ! refl) (and_then ! (get ! refl) (no_more !))) (λ v.
    use1 𝓛 (later (some (λ (r : Result LentBuilder AllocError). ((κ ⊛ others) ⊛ ‵ (X.own_val r (v ∷ [])))
    ⊛ some (λ (ws : Lasts g.ended κs a). ‵ (lasts g.ended κs a ws) ⊛ ‵ (LentHoldsAfterErr (λ n. n ≡ a.0.now) a.0 r)
    ⊛ raw
    (fact 𝓤 (IfOk r (λ x. Named x.builder))) ⊛ raw (fact 𝓤 (IfOk r (λ x. Added x.builder))) ⊛ raw
    (fact 𝓤 (OnErr r Refused)))))) (id⊢ 𝓤 _) $
    await ! tt $ pick ! (λ r. split ! $ split ! $ split ! $
    -- [the token; the others; the first answer; what the first call ensures]
    move ! (2 ∷ []) $ peeks ! X (Is X) (shows 𝓛 X) r (v ∷ []) (λ is.
    lands_as ! refl refl ((Enum-Lawful 𝓛 (shape (RS.the_type (lent_row (named_lft 2 0 tt κs)) E)) tt
    (((lent_laws (named_lft 2 0 tt κs)).lawful 𝓛, tt), ((refusal_laws.lawful 𝓛, tt), tt))).typed
    ((RS.the_type (lent_row (named_lft 2 0 tt κs)) E).to r) (v ∷ []) is).0 $
    let z : K.Ghost = (((κs.0, tt), (qs.0, tt), tt, (r, tt), (v ∷ [], tt)), tt) in
    nothing ! $ move ! (1 ∷ 0 ∷ []) $ join ! $ nothing ! $ move ! (2 ∷ 0 ∷ []) $ join ! $ join ! $ nothing ! $ move !
    (1 ∷ 0 ∷ []) $ use2 𝓛 (raw (K.pre z)) (id⊢ 𝓤 _) $
    -- [what the second call asks; the others; what the first ensures]
    calls_at ! F K (unwrapped_met 𝓤 𝓛 𝓜 𝓡 (code.calls-literal_packed::api::unwrapped 𝓡.env wired)) z
    (and_then ! (get ! refl) (no_more !)) (λ v'.
    use1 𝓛 (later (some (λ (r' : Result (MutBor BuilderValue) AllocError). ((κ ⊛ ‵ ftrue) ⊛ ‵ (Y.own_val r' (v' ∷ [])))
    ⊛ some (λ (ws : Lasts h.ended (κs.0, tt) (r, tt)). ‵ (lasts h.ended (κs.0, tt) (r, tt) ws) ⊛ raw
    (fact 𝓤 (Unwraps r r')))))) (id⊢ 𝓤 _) $
    await ! tt $ pick ! (λ r'. split ! $ split ! $ split ! $
    -- [the token; nothing; the answer; what the second call ensures; the others; what the first ensures]
    move ! (0 ∷ 4 ∷ []) $ join ! $ move ! (3 ∷ []) $ pick ! (λ _. split ! $ drop ! $ heard ! (Unwraps r r') (λ same.
    -- [the tokens; nothing; the answer; what the first ensures]
    move ! (3 ∷ []) $ pick ! (λ _. split ! $ drop ! $ split ! $ rewrite ! 0 (λ F'. ‵ F')
    (rests_of_lent (λ n. n ≡ a.0.now) a.0 r r' same) refl $
    move ! (1 ∷ []) $ split ! $ heard ! (IfOk r (λ x. Named x.builder))
    (λ named_so. split ! $ heard ! (IfOk r (λ x. Added x.builder))
    (λ added_so. heard ! (OnErr r Refused) (λ refused_so.
    -- [what the error says; the tokens; nothing; the answer]
    move ! (3 ∷ []) $ peeks ! Y (Is Y) (shows 𝓛 Y) r' (v' ∷ []) (λ is'.
    lands_as ! refl refl ((Enum-Lawful 𝓛 (shape (RS.the_type (MutRef (named 0) κs.0 R) E)) tt
    ((mut_Lawful 𝓛 (named 0) κs.0 R, tt), ((refusal_laws.lawful 𝓛, tt), tt))).typed
    ((RS.the_type (MutRef (named 0) κs.0 R) E).to r') (v' ∷ []) is').0 $
    returns ! (look_at ! 0 refl) $ free_all ! refl $
    suffices ! _ (ends_at 𝓛 f.ended stayed c y v' r' (tt, (tt, tt)) (tt, (tt, tt))) $
    use0 𝓛 (raw (fact 𝓤 (OnErr r' Refused))) (fact_i 𝓤 (OnErr r' Refused) (emp 𝓤)
    (err_of_lent Refused r r' same refused_so)) $
    use0 𝓛 (raw (fact 𝓤 (IfOk r' Added))) (fact_i 𝓤 (IfOk r' Added) (emp 𝓤) (ok_of_lent Added r r' same added_so)) $
    join ! $
    use0 𝓛 (raw (fact 𝓤 (IfOk r' Named))) (fact_i 𝓤 (IfOk r' Named) (emp 𝓤) (ok_of_lent Named r r' same named_so)) $
    join ! $
    -- [three clauses; the answer; the fourth; the tokens; nothing]
    move ! (2 ∷ 0 ∷ []) $ join ! $ nothing ! $ nothing ! $ join ! $ nothing ! $ join ! $
    move ! (4 ∷ []) $ drop ! $ move ! (3 ∷ 0 ∷ 2 ∷ []) $ group ! 3 $ done !))))))))))))))
