use Rattle.std.proofs.Common.{get_or, sym, ap, ◌∙◌, arith}
use Rattle.std.proofs.lemmas.Bool.{or_right}
use Rattle.std.proofs.lemmas.List.Folds.{Any-from_list_any}
use Rattle.literal_base.specs.Bytes.{contains}
use Rattle.literal_prefilters.proofs.lemmas.RareSetSteps.{same_byte_refl}
use Rattle.literal_prefilters.proofs.lemmas.TableOf.{set_some}
use Rattle.literal_prefilters.proofs.lemmas.Callers.{are_bytes}
use Rattle.literal_prefilters.proofs.prefilter.tables.add_rarest.Goals as goal

pub returns-then-not-holds_any-clause-some : goal.returns-then-not-holds_any-clause-some
returns-then-not-holds_any-clause-some c =
    let byte = c.rarest.result in
    set_some (contains c.mark.new.self) byte (omega arith)
    (c.mark.ensures byte ∙ or_right _ _ (same_byte_refl c.args.ignore_case byte))

pub returns-else-not-holds_any-clause-some : goal.returns-else-not-holds_any-clause-some
returns-else-not-holds_any-clause-some c =
    let p = c.args.pattern.now in
    let set = contains c.args.set.now in
    let any = Any-from_list_any set p (sym c.holds_any.ensures ∙ c.if-not-holds_any.false) in
    set_some set (get_or p any.0 any.1) (are_bytes p (λ k. omega (arith, c.type_inv.pattern k)) any.0 any.1 any.2)
    (ap set any.3 ∙ any.4)
