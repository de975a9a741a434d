-- The numbers of a head that the code holds are those of the definitions' record.
use mathlib.Core.Path.{◌≡◌, ap}
use Rattle.model.specs.Partition as model
use Rattle.head.specs.declared.Head.{Head}
use Rattle.head.specs.Heads.{as_head}

module _ {r : Head} {h : model.Head} (e : as_head r ≡ h) where
  pub flushes-is : r.flushes ≡ h.flushes
  flushes-is = ap (λ (x : model.Head). x.flushes) e

  pub listed-is : r.listed ≡ h.listed
  listed-is = ap (λ (x : model.Head). x.listed) e

  pub total-is : r.total ≡ h.total
  total-is = ap (λ (x : model.Head). x.total) e

  pub live-is : r.live ≡ h.live
  live-is = ap (λ (x : model.Head). x.live) e
