-- what a load of a word of a table, under its author's latch, leaves in the memo of its reader
use Rattle.std.proofs.Common.{◌≡◌, ◌≢◌, ℕ, ◌+◌, ◌<◌, ◌≤◌, refl, sym, ap, ◌∙◌, subst, arith, true, false, cond, leb, eqb, ◌||◌, Option, List, [], ◌∷◌, ◌++◌, map, Some, None, inl, inr, Bool}
use Rattle.std.proofs.lemmas.Bool.{cond-true, cond-false, eq-eqb, ne_eqb, or_right, le-leb, lt-leb}
use Rattle.std.proofs.lemmas.List.Elements.{All-nil, All-cons, All-append, All-map, All-weaker, All-contains_itself}
use Rattle.std.specs.List.{All, Contains}
use Rattle.shm_words.specs.{declared.geometry.Geometry.Geometry, Tags.{tag_refs, tag_plain, tag_author}}
use Rattle.shm_graph.specs.declared.{ask.{Me.Me, Ask.TheVariants.Load}, spot.Spot.{Spot, TheVariants.{Home, Tag, Body}}}
use Rattle.shm_graph.specs.{declared.memo.{Memo.Memo, Step.Step, Stored.Stored}, Blocks.classes}
use Rattle.shm_graph.specs.{Changes.{called, memo_on}, Held.{HeldAt, is_loose}, Laws.{Frame, framed}}
use Rattle.shm_graph.specs.Reach.{learnt, is_dying, reached_blocks}
use Rattle.shm_graph.specs.{MemoAfterRead.{word_read, reference_read, values_read, is_latched}, Spots.spot_at}
use Rattle.shm_graph.specs.Telling.{Claim, bare, tag_claim, tag_claims, Role, Directory, Entry, Value, Other, Played, role_in, roles_from, roles, shaped, role_claim, claims, claim_of}
use Rattle.shm_graph.specs.{Views.view, Core.core}
use Rattle.shm_graph.proofs.{Machines.Calling.called_by, States.Claims.{ClaimSound, claims_sound}}
use Rattle.shm_graph.proofs.Memos.LoadTold.{claim_found, claim_in_all, claim_word}
use Rattle.kind_parts.specs.{LoadNeeds.IsCovered, Walking.Reads}
use Rattle.kind_parts.proofs.{Partitions.Words.{one_more_role, role_new}, BlockReads.told_called, Cores.called_core}

-- ---- under a latch each claim of reference words tells an author

-- without an author no reference words are told
abbrev IsAuthored : Claim → Type 0
IsAuthored k = k.author ≡ None → k.refs ≡ 0

tag_authored : (wide : Bool) (p : Spot) (x : ℕ) → All IsAuthored (tag_claim wide p x)
tag_authored wide (Tag b) x = All-cons IsAuthored (record { block = b; refs = tag_refs wide x; plain = tag_plain wide x; author = Some (tag_author wide x) }) [] (λ e. absurd (cc)) (All-nil IsAuthored)
tag_authored wide p x = All-nil IsAuthored

tags_authored : (wide : Bool) (ks : List Stored) → All IsAuthored (tag_claims wide ks)
tags_authored wide [] = All-nil IsAuthored
tags_authored wide (s ∷ ks) = All-append IsAuthored (tag_claim wide s.spot s.value) (tag_claims wide ks) (tag_authored wide s.spot s.value) (tags_authored wide ks)

role_authored : (a b : ℕ) (role : Role) → IsAuthored (shaped (Some a) b role)
role_authored a b Directory e = absurd (cc)
role_authored a b Entry e = absurd (cc)
role_authored a b Value e = refl
role_authored a b Other e = refl

all_true : {X : Type 0} (P : X → Type 0) (xs : List X) → ((x : X) → P x) → All P xs
all_true P xs h = All-weaker (Contains xs) P (λ x _. h x) xs (All-contains_itself xs)

claims_authored : (wide : Bool) (c a : ℕ) (m : Memo) → m.latch ≡ Some a → All IsAuthored (claims wide c m)
claims_authored wide c a m latch =
    let tags = tag_claims wide m.known ++ map (role_claim m.latch) (roles m) in
    All-append IsAuthored (tags ++ map (λ b. shaped None b Value) m.values) (map bare (reached_blocks c m ++ m.dying))
    (All-append IsAuthored tags (map (λ b. shaped None b Value) m.values)
    (All-append IsAuthored (tag_claims wide m.known) (map (role_claim m.latch) (roles m)) (tags_authored wide m.known)
    (All-map IsAuthored (role_claim m.latch) (roles m)
    (all_true (λ (p : Played). IsAuthored (role_claim m.latch p)) (roles m) (λ p. subst (λ o. IsAuthored (shaped o p.block p.role)) (sym latch) (role_authored a p.block p.role)))))
    (All-map IsAuthored (λ b. shaped None b Value) m.values (all_true (λ b. IsAuthored (shaped None b Value)) m.values (λ b e. refl))))
    (All-map IsAuthored bare (reached_blocks c m ++ m.dying) (all_true (λ b. IsAuthored (bare b)) (reached_blocks c m ++ m.dying) (λ b e. refl)))

-- ---- a word that is told

module _ (g : Geometry) (w : Spot → ℕ) (r : ℕ → Memo) (c : ℕ) (h : HeldAt g w (view r)) (l : c < g.clients) (d i : ℕ) (at : spot_at g (classes w) (d + 2 + i) ≡ Body d i) (over : IsCovered g.wide c (r c) (d + 2 + i)) where
  -- the claim by which it is told
  record IsTold : Type 0 where
    claim : Claim
    told : claim_of g.wide c (r c) (d + 2 + i) ≡ Some claim
    refs : tag_refs g.wide (w (Tag d)) ≡ claim.refs
    authored : (a : ℕ) → (r c).latch ≡ Some a → IsAuthored claim
    author : (a : ℕ) → claim.author ≡ Some a → tag_author g.wide (w (Tag d)) ≡ a

  told_by : IsTold
  told_by =
      let q = claim_found (d + 2 + i) (claims g.wide c (r c)) over.0 over.1 over.2 in
      let s = claim_in_all (ClaimSound g w (view r) c) (d + 2 + i) (claims g.wide c (r c)) q.0 (claims_sound g w r h c l) q.1 in
      let x = claim_word g w (view r) h c q.0 (d + 2 + i) d i s.0 s.1 at in
      record {
        claim = q.0;
        told = q.1;
        refs = ap (λ b. tag_refs g.wide (w (Tag b))) (sym x.0) ∙ (s.0.shape (λ z. let n = x.1 in omega arith)).0;
        authored = λ a e. (claim_in_all IsAuthored (d + 2 + i) (claims g.wide c (r c)) q.0 (claims_authored g.wide c a (r c) e) q.1).0;
        author = λ a e. ap (λ b. tag_author g.wide (w (Tag b))) (sym x.0) ∙ s.0.author a e;
      }

  -- a plain word is known then
  pub plain_reads : (t : Step) (x : ℕ) → tag_refs g.wide (w (Tag d)) ≤ i → ◌≡◌ {A = Memo} (word_read (called (r c) t) (claim_of g.wide c (called (r c) t) (d + 2 + i)) d i x) (record (called (r c) t) { known = learnt (Body d i) x (called (r c) t).known })
  plain_reads t x low =
      let n : Memo = called (r c) t in
      let k : Claim = told_by.claim in
      let refs = told_by.refs in
      ap (λ o. word_read n o d i x) (told_called g.wide c (d + 2 + i) (r c) t (Some k) told_by.told)
      ∙ cond-true (is_dying n d || leb k.refs i) (record n { known = learnt (Body d i) x n.known }) _ (or_right (is_dying n d) (leb k.refs i) (le-leb k.refs i (omega arith)))

  -- a reference word is read under its author's latch
  pub reference_reads : (t : Step) (x : ℕ) → i < tag_refs g.wide (w (Tag d)) → is_dying (r c) d ≡ false → (r c).latch ≡ Some (tag_author g.wide (w (Tag d))) → ◌≡◌ {A = Memo} (word_read (called (r c) t) (claim_of g.wide c (called (r c) t) (d + 2 + i)) d i x) (reference_read (called (r c) t) d i x)
  reference_reads t x low alive latch =
      let n : Memo = called (r c) t in
      let k : Claim = told_by.claim in
      let refs = told_by.refs in
      let held : n.latch ≡ Some (tag_author g.wide (w (Tag d))) = called_by (λ (m : Memo). m.latch ≡ Some (tag_author g.wide (w (Tag d)))) (r c) t latch latch in
      let lives : is_dying n d ≡ false = called_by (λ (m : Memo). is_dying m d ≡ false) (r c) t alive alive in
      let some : k.refs ≢ 0 = (λ z. absurd (omega arith)) in
      ap (λ o. word_read n o d i x) (told_called g.wide c (d + 2 + i) (r c) t (Some k) told_by.told)
      ∙ (cond-false (is_dying n d || leb k.refs i) (record n { known = learnt (Body d i) x n.known }) (cond (is_latched k.author n.latch) (reference_read n d i x) n)
      (ap (λ z. z || leb k.refs i) lives ∙ lt-leb k.refs i (omega arith))
      ∙ cond-true (is_latched k.author n.latch) (reference_read n d i x) n (latched k.author refl (told_by.authored (tag_author g.wide (w (Tag d))) latch) some n.latch held))
    where
      latched : (o : Option ℕ) → told_by.claim.author ≡ o → (told_by.claim.author ≡ None → told_by.claim.refs ≡ 0) → told_by.claim.refs ≢ 0 → (q : Option ℕ) → q ≡ Some (tag_author g.wide (w (Tag d))) → is_latched o q ≡ true
      latched None e authored some q f = absurd (some (authored e))
      latched (Some a) e authored some q f = ap (is_latched (Some a)) f ∙ eq-eqb a (tag_author g.wide (w (Tag d))) (sym (told_by.author a e))

-- ---- the memo after the load

module _ (me : Me) (w : Spot → ℕ) (r : ℕ → Memo) (h : HeldAt me.geometry w (view r)) (l : me.who < me.geometry.clients) (f : Frame) (d i x at : ℕ) (here : spot_at me.geometry (classes w) (d + 2 + i) ≡ Body d i) (over : IsCovered me.geometry.wide me.who (r me.who) (d + 2 + i)) where
  abbrev m : Memo
  m = r me.who

  abbrev t : Step
  t = framed me (Load at) f x

  -- a plain word, as the key of an entry or the number of a value block, is known
  pub plain_core : tag_refs me.geometry.wide (w (Tag d)) ≤ i → core (memo_on m t (Body d i)) ≡ core (record m { known = learnt (Body d i) x m.known })
  plain_core low =
      ap core (plain_reads me.geometry w r me.who h l d i here over t x low)
      ∙ ap (λ (y : Memo). core (record y { known = learnt (Body d i) x y.known })) (called_core m t)

  -- a reference word that is 0 is known
  pub empty_core : x ≡ 0 → i < tag_refs me.geometry.wide (w (Tag d)) → is_dying m d ≡ false → m.latch ≡ Some (tag_author me.geometry.wide (w (Tag d))) → core (memo_on m t (Body d i)) ≡ core (record m { known = learnt (Body d i) x m.known })
  empty_core e low alive latch =
      let n : Memo = called m t in
      let y : Memo = record n { known = learnt (Body d i) x n.known } in
      ap core (reference_reads me.geometry w r me.who h l d i here over t x low alive latch)
      ∙ (ap core {y = y} (cond-true (eqb x 0) y (record n { looks = n.looks ++ record { block = x; from = Body d i } ∷ []; known = learnt (Body d i) x n.known; values = values_read n d i x }) (eq-eqb x 0 e))
      ∙ ap (λ (u : Memo). core (record u { known = learnt (Body d i) x u.known })) (called_core m t))

  -- one that names a block is known, its block joins the looks, and where it is the value of an entry the value blocks
  pub look_core : x ≢ 0 → i < tag_refs me.geometry.wide (w (Tag d)) → is_dying m d ≡ false → m.latch ≡ Some (tag_author me.geometry.wide (w (Tag d)))
      → core (memo_on m t (Body d i)) ≡ core (record m { looks = m.looks ++ record { block = x; from = Body d i } ∷ []; known = learnt (Body d i) x m.known; values = values_read m d i x })
  look_core some low alive latch =
      let n : Memo = called m t in
      let y : Memo = record n { looks = n.looks ++ record { block = x; from = Body d i } ∷ []; known = learnt (Body d i) x n.known; values = values_read n d i x } in
      ap core (reference_reads me.geometry w r me.who h l d i here over t x low alive latch)
      ∙ (ap core {y = y} (cond-false (eqb x 0) (record n { known = learnt (Body d i) x n.known }) y (ne_eqb x 0 some))
      ∙ ap (λ (u : Memo). core (record u { looks = u.looks ++ record { block = x; from = Body d i } ∷ []; known = learnt (Body d i) x u.known; values = values_read u d i x })) (called_core m t))

-- ---- what was read, for a walk

-- what such loads leave is what a walk needs of them
pub word_reads : (m m' : Memo) (d i x : ℕ) → core m' ≡ core (record m { known = learnt (Body d i) x m.known }) → Reads m m' d i x
word_reads m m' d i x e =
    record {
      latch = ap (λ (y : Memo). y.latch) e;
      part = ap (λ (y : Memo). y.part) e;
      own = ap (λ (y : Memo). y.own) e;
      op = ap (λ (y : Memo). y.op) e;
      known = ap (λ (y : Memo). y.known) e;
      looks = inl (ap (λ (y : Memo). y.looks) e);
    }

pub look_reads : (m m' : Memo) (d i x : ℕ) → x ≢ 0 → core m' ≡ core (record m { looks = m.looks ++ record { block = x; from = Body d i } ∷ []; known = learnt (Body d i) x m.known; values = values_read m d i x })
    → Reads m m' d i x × (m'.looks ≡ m.looks ++ record { block = x; from = Body d i } ∷ [])
look_reads m m' d i x some e = (
  record {
    latch = ap (λ (y : Memo). y.latch) e;
    part = ap (λ (y : Memo). y.part) e;
    own = ap (λ (y : Memo). y.own) e;
    op = ap (λ (y : Memo). y.op) e;
    known = ap (λ (y : Memo). y.known) e;
    looks = inr (some, ap (λ (y : Memo). y.looks) e);
  },
  ap (λ (y : Memo). y.looks) e,
)

-- which is a directory in a pool for tables
pub home_role : (m m' : Memo) (a x : ℕ) → m'.looks ≡ m.looks ++ record { block = x; from = Home a } ∷ [] → is_loose m'.part ≡ false → role_in (roles m') x ≡ Directory
home_role m m' a x looks table =
    ap (λ ps. role_in ps x) (cond-false (is_loose m'.part) [] (roles_from [] m'.looks) table ∙ (ap (roles_from []) looks ∙ one_more_role [] m.looks (record { block = x; from = Home a })))
    ∙ role_new (record { block = x; role = Directory }) (roles_from [] m.looks)
