-- pairs of blocks: how their roots, their reference and their home come to be so
use Rattle.std.proofs.Common.{◌≡◌, ℕ, ap, List}
use Rattle.std.specs.Prelude.{slice_index}
use Rattle.shm_graph.specs.{declared.{ask.Me.Me, memo.Memo.Memo}, Asks.Trail, Events.Event, Held.is_loose}
use Rattle.shm_ref.specs.SetHome.{HomeFilled}
use Rattle.t_uses.proofs.Frees.{KeepsLists}

-- a home that was set leaves what waits as it was
pub home_rests : (me : Me) (b : ℕ) (m r : Memo) (tr : Trail) (es : List Event) → HomeFilled me b m r tr es → is_loose r.part ≡ is_loose m.part → KeepsLists m r
home_rests me b m r tr es h loose =
    record {
      loose = loose;
      dying = ap (λ (x : Memo). x.dying) h.filled.rest;
      unsent = λ j. ap (λ (x : Memo). slice_index x.unsent j) h.filled.rest;
      untaken = λ j. ap (λ (x : Memo). slice_index x.untaken j) h.filled.rest;
    }
