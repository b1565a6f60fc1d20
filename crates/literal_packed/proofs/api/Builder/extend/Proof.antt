use Rattle.std.proofs.Common.{◌≡◌, List, [], ◌∷◌, ◌++◌, refl, subst, MutBor, Result, IfOk}
use Rattle.std.proofs.raw_atomic.Walks.{proved_at}
use Rattle.std.specs.contracts.result.Result as RS
use base.Fml.{ftrue, flft}
use base.Logic.{id⊢, emp}
use contract.Monad.{fact, fact_i}
use contract.Running.{tables}
use denote.Builtin.{RefMutOf}
use denote.Enum.Declared.{shape}
use denote.Enum.Enum.{Enum-Lawful}
use denote.Exit.{no}
use denote.Laws.{Is, shows}
use denote.Ref.{MutRef, mut_Lawful}
use denote.Signature.{named_lft, plain}
use denote.Steps.{nothing, peeks, heard}
use denote.Triple.Call.{calls_at, calls_from}
use denote.Triple.Clauses.{Lasts, lasts}
use denote.Triple.Spec.{triple_of}
use denote.Triple.Table.{framed}
use denote.Triple.Walked.{Stays, stay_dropped, Goes-dropped, walk_of, ends_at}
use denote.Param.{bounded, param}
use denote.Param.Laws.{param_laws}
use mir.MapTy.{inst_fn}
use mir.Syntax.{named, a_type, dcons, dnil}
use mir.Val.{Val, vptr}
use prog.Wp.{WpFn}
use base.Logic.{ent}
use Rattle.literal_packed.proofs.lemmas.OneValue.{one}
use types.ByLocal.{alloc_all, pass_all, free_all, look_at, get, through, sets, lands_as}
use types.Kit.{prop, regoal, ‵, raw, ◌⊛◌, later, some, ◌$◌, ◌∵◌, !, qed, done, move, drop, group, use0, use1, use2}
use types.Kit.{split, join, pick, await, rewrite, suffices}
use types.Run.{enter, of_opd, addr, stop, no_more, and_then, returns}
use Rattle.std.specs.declared.alloc.AllocError.{AllocError}
use Rattle.std.specs.contracts.alloc.AllocError.{the_row as E}
use Rattle.std.proofs.alloc.AllocError.TheLaws.{the_row_laws as refusal_laws}
use Rattle.literal_packed.specs.BuilderValue.{BuilderValue}
use Rattle.literal_packed.specs.Lending.{LentHoldsAfterErr, HoldsAll, HoldsTaken}
use Rattle.literal_packed.specs.declared.api.LentBuilder.{LentBuilder}
use Rattle.literal_packed.specs.contracts.api.Builder.{the_row as R}
use Rattle.literal_packed.specs.contracts.api.LentBuilder.{the_row as lent_row}
use Rattle.literal_packed.proofs.api.LentBuilder.TheLaws.{the_row_laws as lent_laws}
use Rattle.literal_packed.proofs.lemmas.Lending.{Unwraps, rests_of_lent, ok_of_lent}
use Rattle.literal_packed.specs.contracts.api.Builder.try_extend as g
use Rattle.literal_packed.proofs.api.Builder.try_extend.Met.{met as try_extend_met}
use Rattle.literal_packed.specs.contracts.api.unwrapped as h
use Rattle.literal_packed.proofs.api.unwrapped.Met.{met as unwrapped_met}
use Rattle.literal_packed.specs.contracts.api.Builder.extend as f
use Rattle.literal_packed.proofs.api.Builder.extend.Statement.{statement}
use Rattle.literal_packed.proofs.api.Builder.extend.Code as code

pub extend_spec : {M : Type 1} → statement M
extend_spec 𝓤 𝓛 𝓜 𝓡 wired I T LI LT gi di gt dt dd P mi mt md =
    let Params = f.signature I T in
    let T₀ = f.ended I T gi di gt dt dd P in let c = f.clauses I T gi di gt dt dd P 𝓛 𝓜.mem 𝓡.returns in
    let 𝓣 = tables 𝓤 𝓛.H 𝓜 𝓡 𝓡.env in let F = framed 𝓤 𝓛.H 𝓜 𝓣 in
    let types = bounded (a_type ∷ a_type ∷ []) (I, (T, tt)) (dcons di (dcons dt (dcons dd dnil))) in
    let fn = inst_fn types code.function in
    let stayed : Stays T₀.signature.params T₀.kept = (stay_dropped _ no, (stay_dropped _ no, tt)) in
    proved_at 𝓛 T₀ stayed c 𝓜 𝓡 (
      Goes-dropped 𝓛 4 (RefMutOf (0 ∷ []) tt (plain (λ _. R)) (λ _. tt)) no (λ κs x w. refl),
      (Goes-dropped 𝓛 4 (plain (λ _. param 0 I)) no (λ κs x w. refl), tt),
    )
    (f.Key.name types) fn (code.unfolded 𝓤 𝓛.H 𝓜 𝓡 wired (I, (T, tt)) di dt dd) (λ y are.
    let κs = y.0.0 in let qs = y.0.1 in let a = y.0.3 in let vss = y.0.4 in
    let W = walk_of 𝓛 T₀ stayed c in
    let G = triple_of 𝓛 (g.signature I T) (g.spec I T gi di gt dt dd P 𝓛 𝓜.mem 𝓡.returns) in
    let K = triple_of 𝓛 h.signature (h.spec 𝓛 𝓜.mem 𝓡.returns) in
    let item = one _ vss.1.0 (((param_laws 0 I LI).lawful 𝓛).typed a.1.0 vss.1.0 are.1.0) in
    let vs : List Val = vptr a.0.ref_ptr.0 a.0.ref_ptr.1 ∷ item.0 ∷ [] in
    let told : G.args y ≡ vs = λ i. are.0.0 i ++ (item.1 i ++ []) in
    let κ = ‵ (flft κs.0 qs.0) in let others = ‵ (flft κs.1.0 qs.1.0) ⊛ ‵ (flft κs.1.1.0 qs.1.1.0) ⊛ ‵
    (flft κs.1.1.1.0 qs.1.1.1.0) ⊛ ‵ ftrue in
    let X = RS.the_row (lent_row (named_lft 4 0 tt κs)) E in let Y = RS.the_row (MutRef (named 0) κs.0 R) E in
    let Named = λ (b : MutBor BuilderValue). b.ghost_name ≡ a.0.ghost_name in
    let Added = λ (b : MutBor BuilderValue). HoldsAll gi.into_iter_gives gt.next_gives a.1.0 a.0.now b.now in
    let Taken = HoldsTaken gi.into_iter_gives gt.next_gives a.1.0 a.0.now in
    qed 𝓛 (raw (G.pre y) ∷ []) ∵ regoal ! (λ (us : List Val). prop (WpFn 𝓤 𝓛.H 𝓣.C 𝓣.Λ fn us (W.post y))) told refl $
    enter ! _ _ _ vs _ $
    alloc_all ! (λ l. pass_all ! refl ((tt, tt), (item.2, tt)) $
    sets ! (addr ! (through ! refl (stop !))) refl (tt, tt) $ sets ! (of_opd ! (get ! refl)) refl item.2 $
    calls_from ! F (raw (G.pre y)) vs (G.post y)
    (subst (λ (us : List Val). ent 𝓤 (G.pre y) (𝓣.C (g.Key.name types) us (G.post y))) told
    (try_extend_met 𝓤 𝓛 𝓜 𝓡 (code.calls-literal_packed::api::Builder::try_extend 𝓡.env wired) I T LI LT gi di gt dt
    dd P mi mt md y))
    (and_then ! (get ! refl) (and_then ! (get ! refl) (no_more !))) (λ v.
    use1 𝓛 (later (some (λ (r : Result LentBuilder AllocError). ((κ ⊛ others) ⊛ ‵ (X.own_val r (v ∷ [])))
    ⊛ some (λ (ws : Lasts (g.ended I T gi di gt dt dd P) κs a). ‵ (lasts (g.ended I T gi di gt dt dd P) κs a ws) ⊛ ‵
    (LentHoldsAfterErr Taken a.0 r) ⊛ raw (fact 𝓤 (IfOk r (λ x. Named x.builder))) ⊛ raw
    (fact 𝓤 (IfOk r (λ x. Added x.builder))))))) (id⊢ 𝓤 _) $
    await ! tt $ pick ! (λ r. split ! $ split ! $ split ! $
    -- [the token; the others; the first answer; what the first call ensures]
    move ! (2 ∷ []) $ peeks ! X (Is X) (shows 𝓛 X) r (v ∷ []) (λ is.
    lands_as ! refl refl ((Enum-Lawful 𝓛 (shape (RS.the_type (lent_row (named_lft 4 0 tt κs)) E)) tt
    (((lent_laws (named_lft 4 0 tt κs)).lawful 𝓛, tt), ((refusal_laws.lawful 𝓛, tt), tt))).typed
    ((RS.the_type (lent_row (named_lft 4 0 tt κs)) E).to r) (v ∷ []) is).0 $
    let z : K.Ghost = (((κs.0, tt), (qs.0, tt), tt, (r, tt), (v ∷ [], tt)), tt) in
    nothing ! $ move ! (1 ∷ 0 ∷ []) $ join ! $ nothing ! $ move ! (2 ∷ 0 ∷ []) $ join ! $ join ! $ nothing ! $ move !
    (1 ∷ 0 ∷ []) $ use2 𝓛 (raw (K.pre z)) (id⊢ 𝓤 _) $
    -- [what the second call asks; the others; what the first ensures]
    calls_at ! F K (unwrapped_met 𝓤 𝓛 𝓜 𝓡 (code.calls-literal_packed::api::unwrapped 𝓡.env wired)) z
    (and_then ! (get ! refl) (no_more !)) (λ v'.
    use1 𝓛 (later (some (λ (r' : Result (MutBor BuilderValue) AllocError). ((κ ⊛ ‵ ftrue) ⊛ ‵ (Y.own_val r' (v' ∷ [])))
    ⊛ some (λ (ws : Lasts h.ended (κs.0, tt) (r, tt)). ‵ (lasts h.ended (κs.0, tt) (r, tt) ws) ⊛ raw
    (fact 𝓤 (Unwraps r r')))))) (id⊢ 𝓤 _) $
    await ! tt $ pick ! (λ r'. split ! $ split ! $ split ! $
    -- [the token; nothing; the answer; what the second call ensures; the others; what the first ensures]
    move ! (0 ∷ 4 ∷ []) $ join ! $ move ! (3 ∷ []) $ pick ! (λ _. split ! $ drop ! $ heard ! (Unwraps r r') (λ same.
    -- [the tokens; nothing; the answer; what the first ensures]
    move ! (3 ∷ []) $ pick ! (λ _. split ! $ drop ! $ split ! $ rewrite ! 0 (λ F'. ‵ F')
    (rests_of_lent Taken a.0 r r' same) refl $
    move ! (1 ∷ []) $ split ! $ heard ! (IfOk r (λ x. Named x.builder))
    (λ named_so. heard ! (IfOk r (λ x. Added x.builder)) (λ added_so.
    -- [what the error says; the tokens; nothing; the answer]
    move ! (3 ∷ []) $ peeks ! Y (Is Y) (shows 𝓛 Y) r' (v' ∷ []) (λ is'.
    lands_as ! refl refl ((Enum-Lawful 𝓛 (shape (RS.the_type (MutRef (named 0) κs.0 R) E)) tt
    ((mut_Lawful 𝓛 (named 0) κs.0 R, tt), ((refusal_laws.lawful 𝓛, tt), tt))).typed
    ((RS.the_type (MutRef (named 0) κs.0 R) E).to r') (v' ∷ []) is').0 $
    returns ! (look_at ! 0 refl) $ free_all ! refl $
    suffices ! _ (ends_at 𝓛 T₀ stayed c y v' r' (tt, (tt, tt)) (tt, (tt, tt))) $
    use0 𝓛 (raw (fact 𝓤 (IfOk r' Added))) (fact_i 𝓤 (IfOk r' Added) (emp 𝓤) (ok_of_lent Added r r' same added_so)) $
    use0 𝓛 (raw (fact 𝓤 (IfOk r' Named))) (fact_i 𝓤 (IfOk r' Named) (emp 𝓤) (ok_of_lent Named r r' same named_so)) $
    join ! $
    -- [two clauses; the answer; the third; the tokens; nothing]
    move ! (2 ∷ 0 ∷ []) $ join ! $ nothing ! $ nothing ! $ join ! $ nothing ! $ join ! $
    move ! (4 ∷ []) $ drop ! $ move ! (3 ∷ 0 ∷ 2 ∷ []) $ group ! 3 $ done !)))))))))))))
