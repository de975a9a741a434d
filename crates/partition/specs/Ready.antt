-- What the functions on one partition's bytes ask of them.
use Rattle.std.specs.Prelude.{ℕ, ◌<◌, true, false, List, ◌≡◌, length, None}
use Rattle.model.specs.declared.Geometry.{Geometry}
use Rattle.model.specs.Geometry.{allowed, partitions, capacity, stride}
use Rattle.model.specs.Keys.{page_of}
use Rattle.model.specs.Page.{count_of, searched}
use Rattle.model.specs.Partition.{head_of, flushes_of, buffer_of}
use Rattle.model.specs.Refusals.{head_overfull, key_overfull, some_page_overfull, last_flush}

-- p is as long as a partition of an allowed geometry
pub record Whole (g : Geometry) (p : List ℕ) : Type 0 where
  pub fine : allowed g ≡ true
  pub long : length p ≡ stride g

-- nothing that a call with the key reads is overfull, and there is room for the key in its page
pub record Storable (g : Geometry) (k : ℕ) (p : List ℕ) : Type 0 where
  pub fits : key_overfull g k p ≡ false
  pub room : searched k (buffer_of g p (page_of g k)) ≡ None → count_of (buffer_of g p (page_of g k)) < capacity g

-- neither the head nor a buffer page is overfull, and a flush number is left
pub record Flushable (g : Geometry) (t : ℕ) (p : List ℕ) : Type 0 where
  pub below : t < partitions g
  pub head : head_overfull g (head_of p) ≡ false
  pub pages : some_page_overfull g p ≡ false
  pub number : flushes_of p < last_flush
