-- "No 00 means profile 0": an input without a 00 and the same behind 00 00 come to the same, but that a refusal's place is two bytes further on.
-- Document 02, point 8. Assumes nothing.
use Prim.Native.Nat.{ℕ, zero, suc, ◌+◌, ◌<◌}
use native.Mathlib.Omega.{arith}
use mathlib.Core.Path.{◌≡◌, refl, sym, ap, ap₂, ◌∙◌}
use mathlib.Core.Bool.{false, cond}
use mathlib.Core.List.{List, [], ◌∷◌, map, map-append}
use lib.ListN.{length, get_or, drop}
use lib.Seq.{drop-drop}
use lib.Dec.{eqb, ltb}
use borrow.Author.Tests.{lt-ltb, le-ltb, ltb-true, ltb-false, ne_eqb, eq-eqb}
use Rattle.fixpoint.proofs.Lists.{by_test}
use Rattle.cases.specs.Faults.{Refusal, no_refusal}
use Rattle.cases.specs.Case.{Case}
use Rattle.cases.specs.Parts.{names}
use Rattle.cases.specs.Reading.{headed, heading_of, counts_so_far, shapes_named, Note, Progress, start, Entry, Shape, Other, pass, named_at}
use Rattle.cases.specs.Reading.{Found, Fault, Good, step_at, plain_found, nested_found, roomy, roomy_found, laid_found, found_at}
use Rattle.cases.specs.Reading.{unknown_shape, after_end, Walked, refused, finish, is_end_entry, stepped, walk, walked_from, walked, expanded, Outcome, outcome}
use Rattle.cases.proofs.Steps.{GoodShows, found_shows}
use Rattle.encoding.specs.Encoding.{encode_case, encode, later, Writable}
use Rattle.encoding.proofs.Encoding.{heading_is, read_back}
use Rattle.encoding.proofs.Lengths.{FoundTakes, found_takes}

-- what has been read, with its shape operands two bytes further on
unfoldable moved : Progress → Progress
moved p =
    record {
      profile = p.profile;
      last = p.last;
      case = p.case;
      written = p.written;
      named = map (λ (r : Note). record { shape = r.shape; place = 2 + r.place }) p.named;
    }

-- the same is found
roomy_moved : (p : Progress) (f : Found) → roomy (moved p) f ≡ roomy p f
unfolding moved
roomy_moved p (Fault n) = refl
roomy_moved p (Good (Shape x) taken) = refl
roomy_moved p (Good (Other command) taken) = refl

found_moved : (p : Progress) (part : List ℕ) → found_at (moved p) part ≡ found_at p part
unfolding found_at roomy_found nested_found counts_so_far moved
found_moved p part =
    let step = step_at p.profile p.last (counts_so_far p) part in
    ap (laid_found p.case.edges) (roomy_moved p (cond (eqb (get_or part 0 0) 0x28) (nested_found p part) (plain_found step)))

named_moved : (at : ℕ) {at' : ℕ} → at' ≡ 2 + at → (shapes : List ℕ) → map (λ (r : Note). record { shape = r.shape; place = 2 + r.place }) (named_at at shapes) ≡ named_at at' shapes
unfolding named_at
named_moved at d [] = refl
named_moved at d (s ∷ shapes) = rw (← d, named_moved at d shapes)

pass_moved : (p : Progress) (at : ℕ) {at' : ℕ} → at' ≡ 2 + at → (g : ℕ) (e : Entry) → pass (moved p) at' g e ≡ moved (pass p at g e)
unfolding pass moved
pass_moved p at d g (Shape x) = rw (map-append _ p.named (named_at at (names x)), named_moved at d (names x))
pass_moved p at d g (Other command) = rw (map-append _ p.named (named_at at (shapes_named command)), named_moved at d (shapes_named command))

unknown_moved : (n : ℕ) (l : List Note) → unknown_shape n (map (λ (r : Note). record { shape = r.shape; place = 2 + r.place }) l) ≡ later (unknown_shape n l)
unfolding unknown_shape later
unknown_moved n [] = refl
unknown_moved n (r ∷ l) = by_test (ltb r.shape n) (λ e. rw e (unknown_moved n l)) (λ e. rw e refl)

-- what the two walks come to
record WalkedAlike (w w' : Walked) : Type 0 where
  refusals : w'.refusal ≡ later w.refusal
  cases : expanded w'.read ≡ expanded w.read

refused_alike : (n at : ℕ) {at' : ℕ} → at' ≡ 2 + at → 0 < n → WalkedAlike (refused n at) (refused n at')
unfolding refused later
refused_alike n at e h = record { refusals = rw (ne_eqb n 0 (omega arith), e); cases = refl }

module _ (s : List ℕ) where
  abbrev behind : List ℕ
  behind = 0x00 ∷ 0x00 ∷ s

  after_moved : (end : ℕ) {end' : ℕ} → end' ≡ 2 + end → (p : Progress) → after_end behind end' (moved p) ≡ later (after_end s end p)
  unfolding after_end moved later
  after_moved end {end'} d p =
      by_test (ltb end (length s))
      (λ e. rw (e, lt-ltb end' (length behind) (omega (arith, ltb-true end (length s) e)), d))
      (λ e. rw (e, le-ltb end' (length behind) (omega (arith, ltb-false end (length s) e))) (unknown_moved (length p.written) p.named))

  finish_alike : (end : ℕ) {end' : ℕ} → end' ≡ 2 + end → (p : Progress) → WalkedAlike (finish s end p) (finish behind end' (moved p))
  unfolding finish later moved expanded
  finish_alike end d p =
      by_test (eqb (after_end s end p).number 0)
      (λ e. rw (after_moved end d p, e) (record { refusals = refl; cases = refl }))
      (λ e. rw (after_moved end d p, e) (record { refusals = rw e; cases = refl }))

  step_alike : (onward onward' : ℕ → Progress → Walked) (at : ℕ) {at' : ℕ} → at' ≡ 2 + at → (p : Progress)
      → ((width : ℕ) (q : Progress) → 0 < width → WalkedAlike (onward (at + width) q) (onward' (at' + width) (moved q)))
      → (f : Found) → GoodShows p (drop at s) f → FoundTakes f → WalkedAlike (stepped onward s at p f) (stepped onward' behind at' (moved p) f)
  unfolding stepped GoodShows FoundTakes
  step_alike onward onward' at d p more (Fault n) shows takes = refused_alike n at d takes
  step_alike onward onward' at d p more (Good e taken) shows takes =
      by_test (is_end_entry e)
      (λ i. rw i (finish_alike (at + 1) (omega arith) p))
      (λ i. rw (i, pass_moved p at d taken.group e) (more taken.width (pass p at taken.group e) shows.0.some))

  walk_alike : (fuel at : ℕ) {at' : ℕ} → at' ≡ 2 + at → (p : Progress) → length s < at + fuel → WalkedAlike (walk fuel s at p) (walk (suc (suc fuel)) behind at' (moved p))
  unfolding walk
  walk_alike zero at {at'} d p enough = rw (le-ltb at' (length behind) (omega arith), walk) (refused_alike 3 at d (omega arith))
  walk_alike (suc fuel) at {at'} d p enough =
      let part : drop at' behind ≡ drop at s = rw d (sym (drop-drop at 2 behind)) in
      let same : found_at (moved p) (drop at' behind) ≡ found_at p (drop at s) = rw part (found_moved p (drop at s)) in
      by_test (ltb at (length s))
      (λ e. rw (e, lt-ltb at' (length behind) (omega (arith, ltb-true at (length s) e)), walk)
      (rw same
      (step_alike (walk fuel s) (walk (suc (suc fuel)) behind) at d p (λ width q some. walk_alike fuel (at + width) (omega arith) q (omega arith))
      (found_at p (drop at s)) (found_shows p (drop at s)) (found_takes p (drop at s)))))
      (λ e. rw (e, le-ltb at' (length behind) (omega (arith, ltb-false at (length s) e)), walk) (refused_alike 3 at d (omega arith)))

  -- an input without a 00, and the same behind 00 00
  pub without_profile : headed s ≡ false → ◌≡◌ {A = Outcome} (outcome (0x00 ∷ 0x00 ∷ s)) (record { refusal = later (outcome s).refusal; case = (outcome s).case })
  unfolding outcome walked walked_from heading_of start moved
  without_profile h =
      let w = walk_alike (suc (length s)) 0 refl (start 0) (omega arith) in
      rw (heading_is 0 s refl, h, w.refusals, w.cases)

-- so a case that keeps the limits of profile 0 is also read back without a 00, as document 01 writes it
encoding_unheaded : (c : Case) → headed (encode_case c) ≡ false
unfolding encode_case
encoding_unheaded c = by_test (ltb 0 (length (encode_case c))) (λ e. rw e) (λ e. rw e)

unmoved : (r : Refusal) → later r ≡ no_refusal → r ≡ no_refusal
unfolding later
unmoved r e =
    let number : r.number ≡ 0 = ap (λ (q : Refusal). q.number) e in
    let place : r.place ≡ 0 = rw (eq-eqb r.number 0 number) at (ap (λ (q : Refusal). q.place) e) in
    ap₂ (λ (n p : ℕ). record { number = n; place = p }) number place

pub read_back_plain : (c : Case) → Writable 0 c → ◌≡◌ {A = Outcome} (outcome (encode_case c)) (record { refusal = no_refusal; case = c })
unfolding encode
read_back_plain c w =
    let e = sym (without_profile (encode_case c) (encoding_unheaded c)) ∙ read_back 0 c w in
    let none = unmoved (outcome (encode_case c)).refusal (ap (λ (x : Outcome). x.refusal) e) in
    let same : (outcome (encode_case c)).case ≡ c = ap (λ (x : Outcome). x.case) e in
    ap₂ (λ (r : Refusal) (x : Case). record { refusal = r; case = x }) none same
