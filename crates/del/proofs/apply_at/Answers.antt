-- The key's partition is lent as a part of memory, and comes back without the key in its buffer and its total, and with the key listed.
use Rattle.std.proofs.Common.{ℕ, List, ◌∙◌, arith}
use Rattle.model.specs.Del.{unbuffered, listed_with}
use Rattle.model.specs.Keys.{partition_of, page_of}
use Rattle.model.specs.Page.{taken}
use Rattle.model.specs.Partition.{totalled, buffer_of}
use Rattle.model.proofs.Lengths.{length-unbuffered, length-listed_with, length-totalled}
use Rattle.partition.proofs.Lending.{Lent, lends-key}
use Rattle.del.proofs.apply_at.Goals as goal
use Rattle.del.proofs.apply_at.Goals.{After-partition_size}

lent : (c : After-partition_size) → let a = c.args in Lent a.g (partition_of a.g a.key) a.memory.now c.key_partition_at-a.result c.partition_size.result
lent c = lends-key _ _ c.requires.g_value c.requires.g_in_bounds c.args.key (omega arith) _ _ c.key_partition_at-a.ensures c.partition_size.ensures

pub overflow_add-e : goal.overflow_add-e
overflow_add-e c = let l = lent (goal.at.overflow_add-e c).After-partition_size in omega (arith, l.inside)

pub slice_bounds-apply-end : goal.slice_bounds-apply-end
slice_bounds-apply-end c = let l = lent (goal.at.slice_bounds-apply-end c).After-partition_size in omega (arith, l.inside)

pub returns : goal.returns
returns c =
    let a = c.args in
    let l = lent (goal.at.returns c).After-partition_size in
    let listed : List ℕ → List ℕ = λ p. listed_with a.youngest a.g a.key (unbuffered a.g a.key p) in
    l.back (λ p. totalled 0 (taken a.key (buffer_of a.g p (page_of a.g a.key))) (listed p))
    (λ p. length-totalled 0 _ (listed p) ∙ length-listed_with a.youngest a.g a.key (unbuffered a.g a.key p) ∙ length-unbuffered a.g a.key p) _ c.apply.ensures
