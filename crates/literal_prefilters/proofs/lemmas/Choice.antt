-- What is picked in the cases where the search needs a hint.
-- For `build`, `start_table` and `rare_table` of the builder of prefilters, and `ConfirmingSearch::of_builder`.
use Rattle.std.proofs.Common.{◌≡◌, ◌==◌, ◌&&◌, ◌||◌, not, ℕ, Bool, true, false, List, [], ◌∷◌, length, Option, Some}
use Rattle.std.proofs.Common.{None, is_some, IsSomeAnd, IsTrue, Result, Ok, Err, OnErr}
use Rattle.std.proofs.Common.{◌<◌, ◌≤◌, nat_lt, get_or, option_map, cond, sym, refl, ap, ◌∙◌, arith}
use Rattle.std.specs.Option.{option_or}
use Rattle.std.proofs.lemmas.Bool.{and_parts, ltb-true}
use Rattle.std.proofs.lemmas.List.Sums.{AllPass-from_list_all}
use Rattle.std.proofs.lemmas.Option.{cond_some}
use Rattle.literal_packed.specs.State.{kept_of, may_keep}
use Rattle.literal_base.specs.declared.packed.MatchKind.{MatchKind}
use Rattle.literal_base.specs.Kinds.{packed_kind_of}
use Rattle.literal_base.specs.Occurs.{NoneIsEmpty, pattern_at}
use Rattle.literal_prefilters.specs.Choice.{has_fewer_start_bytes, is_last_resort, is_one_pattern, is_short_list}
use Rattle.literal_prefilters.specs.Choice.{is_start_nearly_as_rare, packed_search, pick, suits_packed}
use Rattle.literal_prefilters.specs.Exact.{CoversPattern}
use Rattle.literal_prefilters.specs.PrefilterBuilderValue.{PrefilterBuilderValue, prefilter_limit}
use Rattle.literal_prefilters.specs.Inside.Prefilter.{builder_value, IsSound}
use Rattle.literal_prefilters.specs.declared.prefilter.Builder.TheInside.{Inside}
use Rattle.literal_prefilters.specs.PrefilterValue.{PrefilterValue, TakesMemory, by_table, by_memmem, by_packed}
use Rattle.literal_prefilters.specs.Tables.{start_table, rare_table}

-- there are several patterns or case is ignored, these are the tables, and the list is a short one or not
pub record IsByTables (b : PrefilterBuilderValue) (start rare : Option (List (Option ℕ))) (short : Bool) : Type 0 where
  pub some : (length (kept_of b.state) == 0) ≡ false
  pub several : is_one_pattern b ≡ false
  pub start_is : start_table b.ignore_case (kept_of b.state) ≡ start
  pub rare_is : rare_table b.ignore_case (kept_of b.state) ≡ rare
  pub short_is : is_short_list b start rare ≡ short

kept_is : (enabled : Bool) (ps : List (List ℕ)) → (enabled ≡ false → ps ≡ [])
    → kept_of (cond enabled (Some ps) None) ≡ ps
kept_is true ps emptied = refl
kept_is false ps emptied = sym (emptied refl)

pub pick_short : (b : PrefilterBuilderValue) (start rare : Option (List (Option ℕ)))
    → IsByTables b start rare true → pick b ≡ packed_search b
pick_short b start rare at = rw (at.some, at.several, at.start_is, at.rare_is, at.short_is) refl

pub pick_start : (b : PrefilterBuilderValue) (start : List (Option ℕ)) → IsByTables b (Some start) None false
    → pick b ≡ Some (by_table start)
pick_start b start at = rw (at.some, at.several, at.start_is, at.rare_is, at.short_is) refl

pub pick_last : (b : PrefilterBuilderValue) → IsByTables b None None false → is_last_resort b ≡ true
    → pick b ≡ packed_search b
pick_last b at last = rw (at.some, at.several, at.start_is, at.rare_is, at.short_is, last) refl

-- the patterns that a builder keeps are those of its list
pub kept_of_list : (b : Inside) (v : PrefilterBuilderValue) → IsSound b → builder_value b ≡ v
    → kept_of v.state ≡ b.patterns.patterns
kept_of_list b v sound view =
    sym (ap (λ (w : PrefilterBuilderValue). kept_of w.state) view)
    ∙ kept_is b.enabled b.patterns.patterns sound.emptied

-- none of them is empty
pub kept_not_empty : (b : Inside) (v : PrefilterBuilderValue) → IsSound b → builder_value b ≡ v
    → NoneIsEmpty (kept_of v.state)
kept_not_empty b v sound view =
    let ps = b.patterns.patterns in
    let may = (cond_some (may_keep prefilter_limit ps) ps ps sound.allowed).0 in
    let pass = AllPass-from_list_all (λ bytes. nat_lt 0 (length bytes)) ps (and_parts _ _ may).0 in
    rw (kept_of_list b v sound view) (λ k d below. ltb-true 0 (length (get_or ps k d)) (pass k d below))

-- where case is kept and there is one pattern, a search for the first is one for all
pub covers_one : (b : PrefilterBuilderValue) (kind : MatchKind) (pattern : List ℕ) → is_one_pattern b ≡ true
    → pattern ≡ pattern_at (kept_of b.state) 0
    → CoversPattern pattern (record { kind = kind; patterns = kept_of b.state }) b.ignore_case
covers_one b kind pattern = from b.ignore_case (kept_of b.state)
  where
    from : (ignore_case : Bool) (ps : List (List ℕ)) → (not ignore_case && length ps == 1) ≡ true
        → pattern ≡ pattern_at ps 0 → CoversPattern pattern (record { kind = kind; patterns = ps }) ignore_case
    from false (p ∷ []) one is = record { patterns = ap (λ q. q ∷ []) (sym is); case_kept = refl }
    from false [] one is = absurd cc
    from false (p ∷ (q ∷ ps)) one is = absurd (grind (arith, one))
    from true ps one is = absurd cc

-- what the tests and the tables say together
pub tables_of : (b : PrefilterBuilderValue) (empty one short is_short : Bool)
    (start start_ref rare rare_ref : Option (List (Option ℕ)))
    → empty ≡ (length (kept_of b.state) == 0) → empty ≡ false → one ≡ is_one_pattern b → one ≡ false
    → start ≡ start_table b.ignore_case (kept_of b.state) → rare ≡ rare_table b.ignore_case (kept_of b.state)
    → start_ref ≡ start → rare_ref ≡ rare → short ≡ is_short_list b start_ref rare_ref → short ≡ is_short
    → IsByTables b start rare is_short
tables_of b empty one short is_short start start_ref rare rare_ref empty_is some one_is several is_start is_rare
    same_start same_rare tested told =
    record {
      some = sym empty_is ∙ some;
      several = sym one_is ∙ several;
      start_is = sym is_start;
      rare_is = sym is_rare;
      short_is = ap (λ o. is_short_list b o rare) (sym same_start)
          ∙ (ap (λ o. is_short_list b start_ref o) (sym same_rare) ∙ (sym tested ∙ told));
    }

either_some : {T : Type 0} (b : Bool) (x : T) (other : Option T) → is_some other ≡ true
    → is_some (cond b (Some x) other) ≡ true
either_some true x other some = refl
either_some false x other some = some

-- what is picked of two tables, where a packed search may serve
some_of_tables : (b : PrefilterBuilderValue) (packed : PrefilterValue) (start rare : Option (List (Option ℕ)))
    → is_last_resort b ≡ true
    → is_some (cond (is_short_list b start rare) (Some packed)
    (cond (has_fewer_start_bytes start rare) (option_map by_table start)
    (cond (is_start_nearly_as_rare start rare) (option_map by_table start)
    (cond (is_some start && is_some rare) (option_map by_table rare)
    (cond (is_some start || is_some rare) (option_map by_table (option_or start rare))
    (cond (is_last_resort b) (Some packed) None)))))) ≡ true
some_of_tables b packed None None last = rw last (either_some (is_short_list b None None) packed (Some packed) refl)
some_of_tables b packed (Some start) None last =
    either_some (is_short_list b (Some start) None) packed (Some (by_table start)) refl
some_of_tables b packed None (Some rare) last =
    either_some (is_short_list b None (Some rare)) packed (Some (by_table rare)) refl
some_of_tables b packed (Some start) (Some rare) last =
    either_some (is_short_list b (Some start) (Some rare)) packed _
    (either_some (has_fewer_start_bytes (Some start) (Some rare)) (by_table start) _
    (either_some (is_start_nearly_as_rare (Some start) (Some rare)) (by_table start) (Some (by_table rare)) refl))

some_packed : (b : PrefilterBuilderValue) → suits_packed b ≡ true → is_some (packed_search b) ≡ true
some_packed b suits = from (not b.ignore_case) (packed_kind_of b.kind) suits
  where
    from : (kept : Bool) (o : Option MatchKind) → (kept && is_some o) ≡ true
        → is_some (option_map (λ kind. by_packed (record { kind = kind; patterns = kept_of b.state })) o) ≡ true
    from kept (Some kind) both = refl
    from true None both = absurd cc
    from false None both = absurd cc

some_is : {T : Type 0} (o : Option T) → is_some o ≡ true → (x : T) × (o ≡ Some x)
some_is None some = absurd cc
some_is (Some x) some = (x, refl)

-- there is a prefilter where a packed search may serve as the last resort
pub pick_some : (b : PrefilterBuilderValue) → suits_packed b ≡ true → 0 < length (kept_of b.state)
    → length (kept_of b.state) ≤ 128 → is_some (pick b) ≡ true
pick_some b suits some few =
    let ps = kept_of b.state in
    let not_empty : (length ps == 0) ≡ false = grind (arith, some) in
    let last : is_last_resort b ≡ true = grind (arith, suits, few) in
    let packed = some_is (packed_search b) (some_packed b suits) in
    rw (not_empty, packed.1) (either_some (is_one_pattern b) (by_memmem (pattern_at ps 0)) _
    (some_of_tables b packed.0 (start_table b.ignore_case ps) (rare_table b.ignore_case ps) last))

-- memory is refused where a prefilter takes it, so where one is picked
pub refused_where_picked : {A E : Type 0} (picked : Option PrefilterValue) (built : Result A E)
    → IsSomeAnd picked TakesMemory → OnErr built (IsTrue (is_some picked))
refused_where_picked picked (Ok answer) takes = tt
refused_where_picked (Some value) (Err error) takes = refl
refused_where_picked None (Err error) takes = absurd takes
