use Rattle.std.proofs.Common.{get_or, [], ap, sym, ◌∙◌, arith, Some}
use Rattle.std.proofs.lemmas.Option.{slice_get-get_or}
use Rattle.literal_packed.proofs.lemmas.LaidOut.{IsLaidOutAs, entry_inside, entry_of_list, first_is, second_is}
use Rattle.literal_packed.proofs.lemmas.LaidOut.{head_within}
use Rattle.literal_packed.proofs.rabinkarp.entries.BucketEntries.entry.Goals as goal

pub overflow_add-self-inside : goal.overflow_add-self-inside
overflow_add-self-inside c =
    let is : IsLaidOutAs _ _ _ _ _ _ _ = record { laid = c.self.invariant; seen = c.self.view_is } in
    let inside = entry_inside is c.args.bucket c.requires.is_bucket c.args.k (c.requires.within (omega arith)) in
    let ok = c.self.inside.list.ok in
    let small = c.self.inside.list.small in
    grind (arith, inside, ok, small)

pub index-requires : goal.index-requires
index-requires c =
    let is : IsLaidOutAs _ _ _ _ _ _ _ = record { laid = c.self.invariant; seen = c.self.view_is } in
    let inside = entry_inside is c.args.bucket c.requires.is_bucket c.args.k (c.requires.within (omega arith)) in
    let ok = c.self.inside.list.ok in
    omega (arith, inside, ok)

pub returns-in-0-clause-entry : goal.returns-in-0-clause-entry
returns-in-0-clause-entry c = λ within.
    let is : IsLaidOutAs _ _ _ _ _ _ _ = record { laid = c.self.invariant; seen = c.self.view_is } in
    let first = first_is is c.args.bucket c.requires.is_bucket c.index-self-bucket.result in
    rw c.in-0.is (head_within first (omega (arith, c.in-0.is)))

pub returns-in-0-clause-none : goal.returns-in-0-clause-none
returns-in-0-clause-none c = λ past.
    let is : IsLaidOutAs _ _ _ _ _ _ _ = record { laid = c.self.invariant; seen = c.self.view_is } in
    (first_is is c.args.bucket c.requires.is_bucket c.index-self-bucket.result).of_none (omega (arith, c.in-0.is))

pub returns-in-1-clause-entry : goal.returns-in-1-clause-entry
returns-in-1-clause-entry c = λ within.
    let is : IsLaidOutAs _ _ _ _ _ _ _ = record { laid = c.self.invariant; seen = c.self.view_is } in
    let second = second_is is c.args.bucket c.requires.is_bucket c.index-self-bucket-in-1.result in
    rw c.in-1.is (head_within second (omega (arith, c.in-1.is)))

pub returns-in-1-clause-none : goal.returns-in-1-clause-none
returns-in-1-clause-none c = λ past.
    let is : IsLaidOutAs _ _ _ _ _ _ _ = record { laid = c.self.invariant; seen = c.self.view_is } in
    (second_is is c.args.bucket c.requires.is_bucket c.index-self-bucket-in-1.result).of_none
    (omega (arith, c.in-1.is))

pub returns-in_default-clause-entry : goal.returns-in_default-clause-entry
returns-in_default-clause-entry c = λ within.
    let is : IsLaidOutAs _ _ _ _ _ _ _ = record { laid = c.self.invariant; seen = c.self.view_is } in
    let bucket = get_or c.args.self.now c.args.bucket [] in
    slice_get-get_or bucket c.args.k _ within
    ∙ ap Some (entry_of_list is c.args.bucket c.requires.is_bucket c.args.k _ within ∙ sym c.index.ensures)
