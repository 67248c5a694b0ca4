-- the laws of a join as a part
use Rattle.std.proofs.Common.{◌≡◌, Bool, refl, sym, ap, subst, []}
use Rattle.shm_words.specs.Layout.{address}
use Rattle.shm_words.specs.declared.place.Place.TheVariants as place
use Rattle.shm_graph.specs.{declared.{ask.Ask.TheVariants.Store, spot.Spot.Spot}, Asks.Trail, Blocks.classes}
use Rattle.shm_graph.specs.{Events.Nothing, Laws.{framed, event_on}, Tells.{Tells, happens_along}}
use Rattle.plans.specs.{Parts.PartLaws, Proved.Placed.placed}
use Rattle.shm_recover.specs.{declared.join.JoinState.JoinState, Join.Asks.join_trail}
use Rattle.shm_recover.specs.Join.{JoinFits, JoinGives, join_control, AsPart.{join_does, join_part}}
use Rattle.shm_recover.specs.Proved.Join.Keeps.{join_begins, join_laws, status_spot}

pub join_tells : Tells join_control JoinFits join_does
join_tells m r0 tr w r f going s fit =
    let at = address m.me.geometry (place.Status m.me.who) in
    subst (λ (p : Spot). event_on (r m.me.who) (framed m.me (Store at 1) f 0) p ≡ Nothing) (sym (status_spot m.me (classes w) fit.can.member)) refl

-- one word step that is no event tells of none
one_quiet : (m : JoinState) (t : Trail) → t ≡ join_trail m.me → happens_along join_control join_does m t ≡ []
one_quiet m t e = ap (happens_along join_control join_does m) e
