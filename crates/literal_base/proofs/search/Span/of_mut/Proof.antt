-- `of_mut` reads the ends of the span, and lends the bytes between them in their place.
use Rattle.std.proofs.Common.{◌≡◌, ℕ, ◌+◌, ◌-◌, ◌<◌, ◌^◌, List, [], ◌∷◌, ◌++◌, length, take, sym, refl, ap, ◌∙◌}
use Rattle.std.proofs.Common.{slice_range, drop as drop_first, arith}
use Rattle.std.proofs.lemmas.List.{take-append-drop, drop-drop, length-take-le, length-drop}
use Rattle.std.proofs.Math.Nat.{mul-one}
use Rattle.std.proofs.raw_atomic.Walks.{proved}
use base.Fml.{Share, ftrue, flft}
use base.Logic.{emp}
use contract.Monad.{fact, fact_i}
use denote.Builtin.{u8, RefOf}
use denote.Exit.{yes, no}
use denote.Laws.{Is, shows}
use denote.Memory.{cell_at}
use denote.RawPtr.{block_ptr}
use denote.Ref.{MutBor, shr_vals, shr_Tells}
use denote.Signature.{mut_slice_of, plain, types_at}
use denote.RattleType.{owns}
use denote.Slice.{MutSlice, Room, slice_val, mut_slice_vals, mut_slice_Tells}
use denote.Steps.{nothing, peeks, heard, looks, shuts}
use denote.Struct.Laws.{copied, usize-copy}
use denote.Triple.Walked.{Stays, stay_dropped, walk_of, Goes-dropped, Goes-spent_slice, ends_at}
use mir.Syntax.{named}
use mir.Val.{Val}
use types.ByLocal.{alloc_all, pass_all, free_all, look_at, get, get_in, through, sets}
use types.Kit.{‵, raw, ◌⊛◌, later, some, ◌$◌, ◌∵◌, !, qed, done, move, drop, keep, use0, use2, split}
use types.Kit.{split3, join, pick, await, rewrite, suffices, fsplit, fjoin}
use types.Part.{whole, sub, agg, look_in}
use types.Run.{enter, of_opd, bin, addr, load, fld, stop, no_more, and_then, returns}
use Rattle.std.specs.Ptr.{as_mut_ptr, ptr_add}
use Rattle.literal_base.specs.Occurs.{IsValidSpan}
use Rattle.literal_base.specs.contracts.search.Span as span
use Rattle.literal_base.proofs.search.Span.TheLaws.{lowers}
use Rattle.literal_base.proofs.lemmas.LentParts.{part_lent, lends_part}
use Rattle.literal_base.specs.contracts.search.Span.of_mut as f
use Rattle.literal_base.proofs.search.Span.of_mut.Statement.{statement}
use Rattle.literal_base.proofs.search.Span.of_mut.Code as code

abbrev stayed : Stays f.ended.signature.params f.ended.kept
stayed = (
  stay_dropped (RefOf (0 ∷ []) tt (plain (λ _. span.the_row)) (λ _. tt)) yes,
  (stay_dropped (mut_slice_of (1 ∷ []) tt (plain (λ _. u8))) no, tt),
)

pub of_mut_spec : {M : Type 1} → statement M
of_mut_spec 𝓤 𝓛 𝓜 𝓡 wired =
    let c = f.clauses 𝓛 𝓜.mem 𝓡.returns in let R = span.the_row in
    proved 𝓛 f.ended stayed c 𝓜 𝓡 (
      Goes-dropped 𝓛 2 (RefOf (0 ∷ []) tt (plain (λ _. R)) (λ _. tt)) yes (λ κs x w. refl),
      (Goes-spent_slice 𝓛 2 (1 ∷ []) tt (plain (λ _. u8)), tt),
    )
    f.Key.name code.function (code.unfolded 𝓤 𝓛.H 𝓜 𝓡 wired)
    (λ κs. (shr_vals, (mut_slice_vals, tt))) (λ κs.
    (shr_Tells (named 0) κs.0 R, (mut_slice_Tells (named 1) κs.1.0 u8, tt))) (λ κs qs bounds a _ are.
    let W = walk_of 𝓛 f.ended stayed c in
    let self = a.0.now in let bytes = a.1.0 in let xs = bytes.now in
    let b = bytes.ref_ptr.0 in let o = bytes.ref_ptr.1 in let b' = a.0.ref_ptr.0 in let o' = a.0.ref_ptr.1 in
    let y : W.Ghost = ((κs, qs, bounds, a, (shr_vals a.0, (mut_slice_vals bytes, tt))), tt) in
    let room = are.1.0.0.1 in
    let front = take self.start xs in let part = slice_range xs self.start self.end in
    let back = drop_first self.end xs in
    let opened = (copied span.the_type (usize-copy, (usize-copy, tt)) 𝓛).opens in
    qed 𝓛 (((‵ (flft κs.0 qs.0) ⊛ ‵ (flft κs.1.0 qs.1.0) ⊛ ‵ ftrue) ⊛
    ‵ (owns (types_at f.ended.signature.params κs) a y.0.4)) ∷ raw (fact 𝓤 (IsValidSpan xs self)) ∷ []) ∵
    move ! (1 ∷ []) $ heard ! (IsValidSpan xs self) (λ valid.
    let ordered = valid.ordered in let inside = valid.in_haystack in let few = room.0 in
    let small : self.start < 2 ^ 64 = omega arith in let least : self.end < 2 ^ 64 = omega arith in
    let fits : self.end - self.start < 2 ^ 64 = omega arith in
    let span_is : self.start + (self.end - self.start) ≡ self.end = omega arith in
    let front_long : length front ≡ self.start = length-take-le self.start xs (omega arith) in
    let behind = length-drop self.start xs in
    let part_long : length part ≡ self.end - self.start =
    length-take-le (self.end - self.start) (drop_first self.start xs) (omega arith) in
    let cut : xs ≡ front ++ (part ++ back) = sym (take-append-drop self.start xs) ∙ ap (λ l. front ++ l)
    (sym (take-append-drop (self.end - self.start) (drop_first self.start xs)) ∙ ap (λ l. part ++ l)
    (drop-drop (self.end - self.start) self.start xs ∙ ap (λ n. drop_first n xs) span_is)) in
    let large = room.1 in
    let roomy : Room u8 (length part) = (omega arith, omega arith) in
    let Cell = λ (q' : Share) (vs : List Val). ‵ (cell_at q' R.mir vs b' o') in
    split ! $ move ! (1 ∷ []) $ fsplit ! $ fsplit ! $ drop ! $ move ! (1 ∷ []) $ fsplit ! $ move ! (3 ∷ []) $ split3 ! $
    keep ! (5 ∷ 0 ∷ 3 ∷ 1 ∷ []) $
    -- [what self holds; its token; the slice; its token]
    enter ! _ _ _ _ _ $ alloc_all !
    (λ l. pass_all ! refl ((tt, tt), ((tt, (tt, (record { fits = few }, tt))), tt)) $
    looks ! tt R opened self b' o' (λ q' vs. move ! (1 ∷ []) $ peeks ! R (Is R) (shows 𝓛 R) self vs (λ is.
    let ends : vs ≡ lowers.lowered self ∷ [] = lowers.val_is self vs is in
    rewrite ! 1 (Cell q') ends refl $
    sets ! (of_opd ! (load ! (through ! refl (fld ! refl (stop !))) (look_in ! 1 (sub ! 0 refl (whole !))))) refl
    (tt, record { fits = small }) $
    sets ! (of_opd ! (load ! (through ! refl (fld ! refl (stop !))) (look_in ! 1 (sub ! 1 refl (whole !))))) refl
    (tt, record { fits = least }) $
    rewrite ! 1 (Cell q') (sym ends) refl $ move ! (1 ∷ 0 ∷ 2 ∷ []) $ shuts ! tt R q' self vs b' o' $
    -- [the token of self; what it holds; the slice; its token]
    sets ! (bin ! (get_in ! (fld ! refl (stop !)) (sub ! 0 refl (whole !))) (get ! refl) tt) refl (tt, tt) $
    sets ! (bin ! (get ! refl) (get ! refl) ordered) refl (tt, record { fits = fits }) $
    sets ! (addr ! (through ! refl (stop !))) refl (tt, tt) $
    sets ! (agg ! (and_then ! (get ! refl) (and_then ! (get ! refl) (no_more !)))) refl
    (tt, (tt, (record { fits = fits }, tt))) $
    move ! (2 ∷ 3 ∷ []) $ use2 𝓛 (later (some (part_lent 𝓛 (named 1) κs.1.0 qs.1.0 b o bytes.ghost_name xs front part
    back cut self.start front_long roomy))) (lends_part 𝓛 (named 1) κs.1.0 qs.1.0 b o bytes.ghost_name xs front part
    back cut self.start front_long roomy (mut_slice_vals bytes)) $ await ! tt $ pick ! (λ δ.
    returns ! (look_at ! 0 refl) $ free_all ! refl $ keep ! (0 ∷ 1 ∷ []) $ split3 ! $
    -- [the part; its token; what the slice ends as; the token of self]
    let lent : MutBor (List ℕ) = record { ref_ptr = (b, self.start + o); ghost_name = δ; now = part } in
    let InPlace : Type 0 = as_mut_ptr lent ≡ ptr_add u8 self.start (as_mut_ptr bytes) in
    rewrite ! 0 (λ (n : ℕ). ‵ ((MutSlice (named 1) κs.1.0 u8).own_val lent (slice_val (b, self.start + o) n ∷ [])))
    part_long refl $
    suffices ! _ (ends_at 𝓛 f.ended stayed c y (slice_val (b, self.start + o) (self.end - self.start)) lent
    (tt, (tt, tt)) (tt, (tt, tt))) $
    nothing ! $ nothing ! $ fjoin ! $ nothing ! $ fjoin ! $ join ! $ nothing ! $ move ! (2 ∷ 0 ∷ []) $ join ! $
    move ! (3 ∷ 0 ∷ []) $ join ! $ join ! $
    use0 𝓛 (raw (fact 𝓤 InPlace)) (fact_i 𝓤 InPlace (emp 𝓤)
    (ap (λ n. block_ptr b (n + o)) (sym (mul-one self.start)))) $
    use0 𝓛 (raw (fact 𝓤 (lent.now ≡ part))) (fact_i 𝓤 (lent.now ≡ part) (emp 𝓤) refl) $ join ! $
    -- [the other two clauses; what else is handed back; what the slice ends as]
    move ! (1 ∷ 2 ∷ 0 ∷ []) $ done !))))))
