-- A part of a slice of bytes, lent in its place: the slice ends as the part does, between the bytes beside it.
-- For `Span::of_mut`.
use Rattle.std.proofs.Common.{◌≡◌, ℕ, ◌+◌, List, [], ◌∷◌, ◌++◌, length, sym, refl, ap, ◌∙◌, arith}
use Rattle.std.proofs.lemmas.List.{length-append}
use seplogic.Ra.Ura.{Ura}
use mir.Syntax.{Lifetime}
use mir.Val.{Val}
use base.Logic.{SProp, ent, sep, ex}
use base.Stored.{coded_list}
use base.Fml.{Lft, GName, Share, flft, fobs, fbor}
use types.Logic.{Logic, sem}
use types.Kit.{Item, ‵, ◌⊛◌, ◌$◌, ◌∵◌, !, qed, move, drop, fsplit, fsplit3, fjoin, updating, await, later, some}
use types.Kit.{use1, use2, group, pick, now, show, done, split, split3, join, rewrite, feq_l, feq_i}
use types.SemTy.{cells, Arr, Body}
use types.Follow.{takes_part}
use types.Mut.{open_ref}
use denote.Builtin.{u8}
use denote.Memory.{mem}
use denote.Array.{Array}
use denote.Slice.{MutSlice, Room, slice_val}
use denote.Follow.{follows}
use denote.FollowSlice.{heres_id, slice_of}
use borrow.Table.Elements.{at, at_byte, cut_app, join_app}

module _ {M : Type 1} {𝓤 : Ura M} (𝓛 : Logic 𝓤) (ℓ : Lifetime) (κ : Lft) (q : Share) (b o : ℕ) (γ : GName)
    (xs front part back : List ℕ) (cut : xs ≡ front ++ (part ++ back)) (start : ℕ) (long : length front ≡ start)
    (room : Room u8 (length part)) where
  open 𝓛 use {H, A}

  -- where the part begins
  abbrev begin : ℕ
  begin = start + o

  begins : at o (mem u8).size (length front) ≡ begin
  begins = at_byte o (length front) ∙ ap (λ k. k + o) long

  abbrev around : List ℕ → List ℕ
  around ws = front ++ (ws ++ back)

  abbrev Part : GName → SProp 𝓤
  Part δ = sep 𝓤 (sem 𝓛 ((MutSlice ℓ κ u8).own_val (record { ref_ptr = (b, begin); ghost_name = δ; now = part })
      (slice_val (b, begin) (length part) ∷ []))) (sep 𝓤 (A.lft κ q)
      (sem 𝓛 (follows (Array u8 0) (Array u8 0) γ δ around)))

  -- the part under a name of its own, the token, and what the slice ends as
  abbrev pub part_lent : GName → Item 𝓤
  part_lent δ = ‵ ((MutSlice ℓ κ u8).own_val (record { ref_ptr = (b, begin); ghost_name = δ; now = part })
      (slice_val (b, begin) (length part) ∷ [])) ⊛ ‵ (flft κ q) ⊛ ‵ (follows (Array u8 0) (Array u8 0) γ δ around)

  abbrev Others : SProp 𝓤
  Others = sep 𝓤 (sem 𝓛 (cells (mem u8) front b o))
      (sem 𝓛 (cells (mem u8) back b (at begin (mem u8).size (length part))))

  put_back : (ws : List ℕ) → ent 𝓤 (sep 𝓤 (sem 𝓛 ((Arr (mem u8) (length part)).own_at ws b begin)) Others)
      (sem 𝓛 ((Arr (mem u8) (length xs)).own_at (around ws) b o))
  put_back ws = qed 𝓛 (‵ ((Arr (mem u8) (length part)).own_at ws b begin) ∷ ‵ (cells (mem u8) front b o) ∷
      ‵ (cells (mem u8) back b (at begin (mem u8).size (length part))) ∷ []) ∵ fsplit ! $ feq_l ! (λ same.
      let whole : length xs ≡ length front + length (part ++ back) =
      ap length cut ∙ length-append front (part ++ back) in
      let inner = length-append part back in
      let now_whole = length-append front (ws ++ back) in
      let now_inner = length-append ws back in
      rewrite ! 2 (λ (k : ℕ). ‵ (cells (mem u8) back b (at begin (mem u8).size k))) (sym same) refl $
      move ! (0 ∷ 2 ∷ []) $
      use2 𝓛 (‵ (cells (mem u8) (ws ++ back) b begin)) (join_app 𝓛 (mem u8) ws back b begin) $
      rewrite ! 0 (λ (k : ℕ). ‵ (cells (mem u8) (ws ++ back) b k)) (sym begins) refl $ move ! (1 ∷ 0 ∷ []) $
      use2 𝓛 (‵ (cells (mem u8) (around ws) b o)) (join_app 𝓛 (mem u8) front (ws ++ back) b o) $
      feq_i ! ℕ (length (around ws)) (length xs) (omega arith) $ fjoin ! $ done !)

  pub lends_part : (vs : List Val)
      → ent 𝓤 (sep 𝓤 (sem 𝓛 ((MutSlice ℓ κ u8).own_val (record { ref_ptr = (b, o); ghost_name = γ; now = xs }) vs))
      (A.lft κ q)) (H.⇛ (ex 𝓤 Part))
  lends_part vs = qed 𝓛 (‵ ((MutSlice ℓ κ u8).own_val (record { ref_ptr = (b, o); ghost_name = γ; now = xs }) vs) ∷
      ‵ (flft κ q) ∷ []) ∵ updating ! $ fsplit3 ! $ drop ! $
      rewrite ! 0 (λ (l : List ℕ). ‵ (fobs γ ((coded_list u8.coded).code l))) (heres_id u8 xs) refl $
      open_ref ! tt (Arr (mem u8) (length xs)) {b = b} {o = o} $ fsplit ! $ drop ! $
      rewrite ! 0 (λ (l : List ℕ). ‵ (cells (mem u8) l b o)) cut refl $
      use1 𝓛 (‵ (cells (mem u8) front b o) ⊛ ‵ (cells (mem u8) (part ++ back) b (at o (mem u8).size (length front))))
      (cut_app 𝓛 (mem u8) front (part ++ back) b o) $ split ! $ move ! (1 ∷ []) $
      rewrite ! 0 (λ (k : ℕ). ‵ (cells (mem u8) (part ++ back) b k)) begins refl $
      use1 𝓛 (‵ (cells (mem u8) part b begin) ⊛ ‵ (cells (mem u8) back b (at begin (mem u8).size (length part))))
      (cut_app 𝓛 (mem u8) part back b begin) $ split ! $
      feq_i ! ℕ (length part) (length part) refl $ fjoin ! $ move ! (2 ∷ 1 ∷ []) $ join ! $
      move ! (2 ∷ 3 ∷ 4 ∷ 1 ∷ 0 ∷ []) $ group ! 5 $
      use1 𝓛 (later (some (λ (δ : GName). ‵ (fobs δ ((coded_list u8.coded).code part)) ⊛
      ‵ (fbor κ (Body (Arr (mem u8) (length part)) b begin δ)) ⊛ ‵ (flft κ q) ⊛
      ‵ (follows (Array u8 0) (Array u8 0) γ δ around))))
      (takes_part 𝓛 (Arr (mem u8) (length xs)) (Arr (mem u8) (length part)) around κ q b o b begin γ Others put_back
      ((coded_list u8.coded).code xs) ((coded_list u8.coded).code xs) part) $ await ! tt $ pick ! (λ δ. split3 ! $
      use2 𝓛 (‵ ((MutSlice ℓ κ u8).own_val (record { ref_ptr = (b, begin); ghost_name = δ; now = part })
      (slice_val (b, begin) (length part) ∷ []))) (slice_of 𝓛 u8 ℓ κ b begin δ part room) $
      now ! $ show ! Part δ $ done !)
