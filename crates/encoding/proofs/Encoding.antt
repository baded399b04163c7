-- A sound case that keeps a profile's limits and parks edges that it has laid is read back from its encoding under that profile, and reading
-- bytes gives exactly such cases. Assumes nothing.
use Prim.Native.Nat.{ℕ, zero, suc, ◌+◌, ◌*◌, ◌/◌, ◌%◌, ◌≤◌, ◌<◌}
use native.Mathlib.Omega.{arith}
use mathlib.Core.Path.{◌≡◌, refl, sym, ap, ◌∙◌}
use mathlib.Core.Logic.{◌⊎◌, inl, inr, ⊎_elim, ◌↔◌}
use mathlib.Core.Bool.{Bool, true, false, not, ◌&&◌, ◌||◌, false≢true, and-eq-true_iff}
use mathlib.Core.List.{List, [], ◌∷◌, ◌++◌, map, append_assoc, append-nil, map-append}
use lib.ListN.{length, get_or, drop, length-append, length-drop}
use lib.Seq.{get_or-append_seam, drop-drop}
use lib.Dec.{eqb, ltb}
use borrow.Author.Tests.{lt-ltb, le-ltb, le-leb, leb-true, ne_eqb, eqb-true}
use Rattle.fixpoint.specs.Lists.{all}
use Rattle.fixpoint.proofs.Lists.{tests, bool_cases, by_test, or_cases, or_left, or_right, all_in, all_append, all_map, all_mono}
use Rattle.cases.specs.declared.command.Edge.{Edge}
use Rattle.cases.specs.declared.command.Target.{Target}
use Rattle.cases.specs.declared.command.Row.{Row}
use Rattle.cases.specs.declared.command.Command.{Command}
use Rattle.cases.specs.declared.command.Command.TheVariants.{Nodes, End}
use Rattle.cases.specs.declared.command.Command.TheVariants.{Edge as EdgeCommand, Path as PathCommand, Shape as ShapeCommand, Target as TargetCommand}
use Rattle.cases.specs.declared.command.PathRule.{PathRule}
use Rattle.cases.specs.declared.command.PathRule.TheVariants.{Forward, Backward, Union, Sequence, Star}
use Rattle.cases.specs.declared.command.ShapeRule.{ShapeRule}
use Rattle.cases.specs.declared.command.ShapeRule.TheVariants.{Top, Node, And, Or, Not, Same, All, AtLeast}
use Rattle.cases.specs.declared.numbers.Node.{Node as NodeNumber}
use Rattle.cases.specs.declared.numbers.Property.{Property}
use Rattle.cases.specs.Reading.{HeadingIs}
use Rattle.cases.specs.Reading.{Is}
use Rattle.cases.specs.declared.answers.Taken.{Taken}
use Rattle.cases.specs.Case.{Case, empty_case, counts_of, path_rule, paths_of_path, paths_of_shape, references}
use Rattle.cases.specs.Counts.{is_profile, node_limit, shape_limit}
use Rattle.cases.specs.Format.{format_of, group_of, width_of, taken_of, number_at, row_of, complete, operands_by, path_rule_of, shape_rule_of, command_of, command_at}
use Rattle.cases.specs.Faults.{in_order, within_limit, laid, edge_there, shape_nodes_known, path_paths_earlier, shape_paths_earlier, shape_least_positive, no_refusal}
use Rattle.cases.specs.Parts.{Plain, names}
use Rattle.cases.specs.Reading.{heading_of, heading_profile, judged, step_at, Note, Progress, start, counts_so_far, add, shapes_named, named_at, Entry, Shape, Other, pass}
use Rattle.cases.specs.Reading.{Found, Good, entry_of, room_for, roomy_found, parkable, found_at, unknown_shape, after_end, Walked, refused, finish}
use Rattle.cases.specs.Reading.{is_end, is_end_entry, stepped, walk, walked_from, walked, profile_of, Outcome, expanded, outcome}
use Rattle.cases.specs.Sound.{path_byte, shape_byte, OneByteEach}
use Rattle.cases.proofs.Expansion.{ruled, expansion_passes, plain_length, plain_expansion}
use Rattle.cases.proofs.Opening.{byte_blind}
use Rattle.cases.proofs.Profiles.{shapes_at_most, nodes_at_most}
use Rattle.cases.proofs.Steps.{is_one_byte, EntryShows, walked_keeps}
use Rattle.cases.proofs.Sound.{profile_pass, outcome_sound, outcome_limited}
use Rattle.encoding.specs.Encoding.{two_bytes, encode_edge, encode_path, encode_shape, encode_target, encode_all, encode_case, encode, Writable, Readable}
use Rattle.encoding.proofs.Recording.{recorded_at, recorded_in, outcome_recorded}

-- ---- Lists of bytes: a number below 65,536 is two, and each number below 256 is one

record Bytes (l : List ℕ) : Type 0 where
  each : all l (λ b. ltb b 256) ≡ true

bytes_more : {b : ℕ} {l : List ℕ} → b < 256 → Bytes l → Bytes (b ∷ l)
unfolding all
bytes_more {b} h k = record { each = rw (lt-ltb b 256 h) k.each }

bytes_two : {x : ℕ} {l : List ℕ} → x < 65536 → Bytes l → Bytes (two_bytes x l)
bytes_two h k = bytes_more (omega arith) (bytes_more (omega arith) k)

bytes_below : (n : ℕ) (l : List ℕ) {r : List ℕ} → n ≤ 256 → all l (λ x. ltb x n) ≡ true → Bytes r → Bytes (l ++ r)
bytes_below n l {r} h e k =
    record { each = all_append l r (λ x. ltb x 256) ∙ rw (all_mono l (λ x. ltb x n) (λ x. ltb x 256) (λ x e. omega (arith, tests)) e) k.each }

-- ---- Where a command was written, reading finds that command, its group, and the bytes behind it

record FoundCommand : Type 0 where
  command : Command
  group : ℕ
  rest : List ℕ

abbrev width_at : List ℕ → ℕ
width_at s = width_of (get_or s 0 0)

found : List ℕ → FoundCommand
found s = record { command = command_at s; group = group_of (get_or s 0 0); rest = drop (width_at s) s }

number_back : (x : ℕ) → x % 256 + 256 * (x / 256) ≡ x
number_back x = omega arith

module _ (l : List ℕ) where
  found_nodes : (n : ℕ) → found (0x01 ∷ two_bytes n l) ≡ record { command = Nodes n; group = 1; rest = l }
  unfolding found command_at command_of row_of number_at format_of width_of
  found_nodes n = simp number_back

  found_coded : (code : ℕ) (p : Property) (a b : NodeNumber) → (code ≡ 0x02) ⊎ (code ≡ 0x03)
      → found (encode_edge (record { code = code; property = p; subject = a; object = b }) l)
      ≡ record { command = EdgeCommand (record { code = code; property = p; subject = a; object = b }); group = 2; rest = l }
  unfolding found encode_edge command_at command_of row_of number_at format_of width_of
  found_coded code p a b (inl h) = rw h (simp number_back)
  found_coded code p a b (inr h) = rw h (simp number_back)

  found_edge : (e : Edge) → (e.code ≡ 0x02) ⊎ (e.code ≡ 0x03) → found (encode_edge e l) ≡ record { command = EdgeCommand e; group = 2; rest = l }
  found_edge e h = found_coded e.code e.property e.subject e.object h

  found_path : (r : PathRule) → found (encode_path r l) ≡ record { command = PathCommand r; group = 3; rest = l }
  unfolding found encode_path command_at command_of row_of number_at format_of width_of path_rule_of
  found_path (Forward p) = refl
  found_path (Backward p) = refl
  found_path (Union p q) = refl
  found_path (Sequence p q) = refl
  found_path (Star p) = refl

  found_shape : (r : ShapeRule) → found (encode_shape r l) ≡ record { command = ShapeCommand r; group = 4; rest = l }
  unfolding found encode_shape command_at command_of row_of number_at format_of width_of shape_rule_of
  found_shape Top = refl
  found_shape (Node a) = simp number_back
  found_shape (And s t) = refl
  found_shape (Or s t) = refl
  found_shape (Not s) = refl
  found_shape (Same p q) = refl
  found_shape (All p s) = refl
  found_shape (AtLeast n p s) = refl

  found_target : (t : Target) → found (encode_target t l) ≡ record { command = TargetCommand t; group = 5; rest = l }
  unfolding found encode_target command_at command_of row_of number_at format_of width_of
  found_target t = simp number_back

  found_end : found (0xff ∷ l) ≡ record { command = End; group = 6; rest = l }
  unfolding found command_at command_of format_of width_of
  found_end = refl

-- ---- What is written for a command are bytes, since its operands are below the numbers of nodes, paths and shapes

bytes_edge : (n : ℕ) (e : Edge) {l : List ℕ} → n ≤ 65536 → e.code < 256 → ltb e.property.0 256 ≡ true → ltb e.subject.0 n && ltb e.object.0 n ≡ true
    → Bytes l → Bytes (encode_edge e l)
unfolding encode_edge
bytes_edge n e h c b k r =
    let a = (and-eq-true_iff (ltb e.subject.0 n) (ltb e.object.0 n)).0 k in
    bytes_more c (bytes_more (omega (arith, tests)) (bytes_two (omega (arith, tests)) (bytes_two (omega (arith, tests)) r)))

bytes_path : (r : PathRule) (l : List ℕ) → path_byte r ≡ true → Bytes (paths_of_path r ++ l) → Bytes (encode_path r l)
unfolding encode_path paths_of_path
bytes_path (Forward p) l b k = bytes_more (omega arith) (bytes_more (omega (arith, tests)) k)
bytes_path (Backward p) l b k = bytes_more (omega arith) (bytes_more (omega (arith, tests)) k)
bytes_path (Union p q) l b k = bytes_more (omega arith) k
bytes_path (Sequence p q) l b k = bytes_more (omega arith) k
bytes_path (Star p) l b k = bytes_more (omega arith) k

bytes_shape : (n : ℕ) (r : ShapeRule) (l : List ℕ) → n ≤ 65536 → shape_byte r ≡ true → shape_nodes_known n r ≡ true
    → Bytes (paths_of_shape r ++ (references r ++ l)) → Bytes (encode_shape r l)
unfolding encode_shape paths_of_shape references shape_nodes_known
bytes_shape n Top l h b a k = bytes_more (omega arith) k
bytes_shape n (Node x) l h b a k = bytes_more (omega arith) (bytes_two (omega (arith, tests)) k)
bytes_shape n (And s t) l h b a k = bytes_more (omega arith) k
bytes_shape n (Or s t) l h b a k = bytes_more (omega arith) k
bytes_shape n (Not s) l h b a k = bytes_more (omega arith) k
bytes_shape n (Same p q) l h b a k = bytes_more (omega arith) k
bytes_shape n (All p s) l h b a k = bytes_more (omega arith) k
bytes_shape n (AtLeast m p s) l h b a k = bytes_more (omega arith) (bytes_more (omega (arith, tests)) k)

bytes_target : (t : Target) {l : List ℕ} → t.shape.0 < 256 → t.node.0 < 65536 → Bytes l → Bytes (encode_target t l)
unfolding encode_target
bytes_target t h a k = bytes_more (omega arith) (bytes_more h (bytes_two a k))

-- ---- The order of the groups: behind the first, 1, each may repeat and later ones may follow

order_again : (g : ℕ) → 2 ≤ g → in_order g g ≡ true
order_again g h = rw (ne_eqb g 0 (omega arith), ne_eqb g 1 (omega arith)) (le-leb g g (omega arith))

order_later : (last g next : ℕ) → 2 ≤ g → g ≤ next → in_order last g ≡ true → in_order last next ≡ true
order_later last g next two h e =
    let o = rw (ne_eqb g 1 (omega arith)) at e in
    ⊎_elim
    (λ z. absurd (false≢true (rw z at o)))
    (λ z. rw z (rw (ne_eqb next 1 (omega arith)) (le-leb last next (omega (arith, leb-true last g (rw z at o))))))
    (bool_cases (eqb last 0))

-- ---- One command: the walk takes it and stands before what is behind it

-- what has been read is the case c, each of whose shapes is written plainly
record Holds (p : Progress) (c : Case) : Type 0 where
  case_is : p.case ≡ record { nodes = c.nodes; edges = c.edges; paths = c.paths; shapes = []; targets = c.targets }
  written_is : p.written ≡ map Plain c.shapes

counts_held : {p : Progress} {c : Case} → Holds p c → counts_so_far p ≡ counts_of c
unfolding counts_so_far counts_of
counts_held {c = c} h = rw (h.case_is, h.written_is, plain_length c.shapes)

-- there is room for one shape more, none being fresh
room_held : {p : Progress} {c : Case} → Holds p c → (command : Command) → within_limit p.profile (counts_of c) command ≡ true → room_for p (entry_of command) ≡ true
unfolding counts_of
room_held h (Nodes n) w = refl
room_held h (EdgeCommand e) w = refl
room_held h (PathCommand r) w = refl
room_held {p} {c} h (ShapeCommand r) w =
    let l = c.shapes ++ (r ∷ []) in
    let e : map Plain c.shapes ++ (Plain r ∷ []) ≡ map Plain l = sym (map-append Plain c.shapes (r ∷ [])) in
    rw (h.written_is, e, plain_expansion l) (le-leb (length l) (shape_limit p.profile) (omega (arith, tests, length-append c.shapes (r ∷ []))))
room_held h (TargetCommand t) w = refl
room_held h End w = refl

-- the edge that it parks is there
there_held : {p : Progress} {c : Case} → Holds p c → (command : Command) → edge_there c.edges command ≡ true → parkable p.case.edges (entry_of command) ≡ true
there_held h (Nodes n) t = refl
there_held h (EdgeCommand e) t = rw h.case_is t
there_held h (PathCommand r) t = refl
there_held h (ShapeCommand r) t = refl
there_held h (TargetCommand u) t = refl
there_held h End t = refl

holds_more : {p : Progress} {c : Case} (at g : ℕ) (command : Command) → Holds p c → Holds (pass p at g (entry_of command)) (add c command)
unfolding pass add
holds_more at g (Nodes n) h = record { case_is = rw h.case_is; written_is = h.written_is }
holds_more at g (EdgeCommand e) h = record { case_is = rw h.case_is; written_is = h.written_is }
holds_more at g (PathCommand r) h = record { case_is = rw h.case_is; written_is = h.written_is }
holds_more {c = c} at g (ShapeCommand r) h = record { case_is = rw h.case_is; written_is = rw h.written_is (sym (map-append Plain c.shapes (r ∷ []))) }
holds_more at g (TargetCommand t) h = record { case_is = rw h.case_is; written_is = h.written_is }
holds_more at g End h = record { case_is = rw h.case_is; written_is = h.written_is }

entry_passes : (p : Progress) (at g : ℕ) (command : Command)
    → ((pass p at g (entry_of command)).last ≡ g) × ((pass p at g (entry_of command)).named ≡ p.named ++ named_at at (shapes_named command))
    × (is_end_entry (entry_of command) ≡ is_end command)
unfolding pass names shapes_named
entry_passes p at g (Nodes n) = (refl, refl, refl)
entry_passes p at g (EdgeCommand e) = (refl, refl, refl)
entry_passes p at g (PathCommand r) = (refl, refl, refl)
entry_passes p at g (ShapeCommand r) = (refl, refl, refl)
entry_passes p at g (TargetCommand t) = (refl, refl, refl)
entry_passes p at g End = (refl, refl, refl)

-- the profile, and how many shapes there are in the end
record Bounds : Type 0 where
  profile : ℕ
  shapes : ℕ

-- a command of the group g that `write` puts before other bytes, and that has no fault behind the case c within these bounds
record Fits (b : Bounds) (g : ℕ) (c : Case) (command : Command) (write : List ℕ → List ℕ) : Type 0 where
  known : g < 7
  is : (l : List ℕ) → found (write l) ≡ record { command = command; group = g; rest = l }
  bytes : (l : List ℕ) → Bytes l → Bytes (write l)
  within : within_limit b.profile (counts_of c) command ≡ true
  passes : (row : Row) (taken : Taken) → judged b.profile (counts_of c) command row taken ≡ Is command row taken
  there : edge_there c.edges command ≡ true
  named : all (shapes_named command) (λ s. ltb s b.shapes) ≡ true

-- the walk stands before these bytes, with fuel above them and behind the case c, under the profile; the shapes named so far are known
record StandsBefore (b : Bounds) (c : Case) (bytes : List ℕ) (fuel : ℕ) (s : List ℕ) (at : ℕ) (p : Progress) : Type 0 where
  left : drop at s ≡ bytes
  fuelled : length s < at + fuel
  under : p.profile ≡ b.profile
  holds : Holds p c
  known : all p.named (λ r. ltb r.shape b.shapes) ≡ true

-- the walk comes to the case c
record ReadAs (w : Walked) (c : Case) : Type 0 where
  unrefused : w.refusal ≡ no_refusal
  holds : Holds w.read c

-- bytes that, read behind the case `before` and where the group g can follow, give the case c
record Reads (b : Bounds) (g : ℕ) (before : Case) (bytes : List ℕ) (c : Case) : Type 0 where
  some : 1 ≤ length bytes
  are_bytes : Bytes bytes
  gives : {fuel : ℕ} {s : List ℕ} {at : ℕ} {p : Progress} → StandsBefore b before bytes fuel s at p → in_order p.last g ≡ true
      → ReadAs (walk fuel s at p) c

-- what is found
abbrev found_of : Command → ℕ → List ℕ → Found
found_of command g bytes = Good (entry_of command) (record { group = g; width = width_at bytes })

-- a byte of a known group is none of 28
not_nested : (b g : ℕ) → group_of b ≡ g → g < 7 → eqb b 0x28 ≡ false
unfolding format_of
not_nested b g e h = by_test (eqb b 0x28) (λ q. absurd (let z : 7 ≡ g = rw (eqb-true b 0x28 q) at e in omega arith)) (λ q. q)

module _ {n : Bounds} {g : ℕ} {c : Case} {command : Command} {write : List ℕ → List ℕ} (m : Fits n g c command write)
    (l : List ℕ) (whole : width_at (write l) ≤ length (write l)) where
  group_is : group_of (get_or (write l) 0 0) ≡ g
  unfolding found
  group_is = ap (λ o. o.group) (m.is l)

  step_fits : {fuel : ℕ} {s : List ℕ} {at : ℕ} {p : Progress} → StandsBefore n c (write l) fuel s at p → in_order p.last g ≡ true
      → step_at p.profile p.last (counts_so_far p) (write l) ≡ Is command (row_of (write l)) (record { group = g; width = width_at (write l) })
  unfolding found step_at operands_by taken_of width_of
  step_fits {p} b order =
      rw (counts_held b.holds, b.under, group_is, ap (λ o. o.command) (m.is l), lt-ltb g 7 m.known, order)
      (rw (le-leb (width_at (write l)) (length (write l)) whole) (m.passes (row_of (write l)) (record { group = g; width = width_at (write l) })))

  found_fits : {fuel : ℕ} {s : List ℕ} {at : ℕ} {p : Progress} → StandsBefore n c (write l) fuel s at p → in_order p.last g ≡ true
      → found_at p (drop at s) ≡ found_of command g (write l)
  unfolding found_at roomy_found
  found_fits {p} b order =
      rw (b.left, not_nested (get_or (write l) 0 0) g group_is m.known)
      (rw (step_fits b order) (rw (room_held b.holds command (rw b.under m.within)) (rw (there_held b.holds command m.there))))

  walk_starts : {fuel : ℕ} {s : List ℕ} {at : ℕ} {p : Progress} → StandsBefore n c (write l) fuel s at p → at < length s
  unfolding width_of
  walk_starts {s} {at} b = omega (arith, ap length b.left, length-drop at s)

  walk_fits : {after : Case} {fuel : ℕ} {s : List ℕ} {at : ℕ} {p : Progress}
      → ((less : ℕ) → StandsBefore n c (write l) (suc less) s at p → ReadAs (stepped (walk less s) s at p (found_of command g (write l))) after)
      → StandsBefore n c (write l) fuel s at p → in_order p.last g ≡ true → ReadAs (walk fuel s at p) after
  unfolding walk
  walk_fits {fuel = zero} f b order = absurd (omega (arith, walk_starts b))
  walk_fits {fuel = suc less} {s} {at} f b order = rw (lt-ltb at (length s) (walk_starts b), walk) (rw (found_fits b order) (f less b))

  stands_next : {fuel : ℕ} {s : List ℕ} {at : ℕ} {p : Progress} → StandsBefore n c (write l) (suc fuel) s at p
      → StandsBefore n (add c command) l fuel s (at + width_at (write l)) (pass p at g (entry_of command))
  unfolding found named_at width_of
  stands_next {s} {at} {p} b =
      let t : Note → Bool = λ r. ltb r.shape n.shapes in
      let new : all (named_at at (shapes_named command)) t ≡ true = all_map (λ x. record { shape = x; place = at }) (shapes_named command) t ∙ m.named in
      record {
        left = sym (drop-drop (width_at (write l)) at s) ∙ rw b.left (ap (λ o. o.rest) (m.is l));
        fuelled = omega arith;
        under = profile_pass p at g (entry_of command) ∙ b.under;
        holds = holds_more at g command b.holds;
        known = rw (entry_passes p at g command).1 (all_append p.named (named_at at (shapes_named command)) t ∙ rw b.known new);
      }

-- a command that isn't the end, before bytes that are read: it is whole, since there are bytes behind it
command_reads : {n : Bounds} {g next : ℕ} {c after : Case} {command : Command} {write : List ℕ → List ℕ} {l : List ℕ} → Fits n g c command write → is_end command ≡ false
    → Reads n next (add c command) l after → in_order g next ≡ true → Reads n g c (write l) after
unfolding found stepped
command_reads {g = g} {command = command} {write} {l} m goes_on r order =
    let w = width_at (write l) in
    let whole : w < length (write l) = omega (arith, ap (λ o. length o.rest) (m.is l), length-drop w (write l)) in
    record {
      some = omega arith;
      are_bytes = m.bytes l r.are_bytes;
      gives =
          λ {fuel} {s} {at} {p}.
          walk_fits m l (omega arith)
          (λ less b.
          rw ((entry_passes p at g command).2, goes_on)
          (r.gives (stands_next m l (omega arith) b) (rw (entry_passes p at g command).0 order)));
    }

-- the end: nothing is behind it, and no shape is unknown
unknown_shape_known : (n : ℕ) (l : List Note) → all l (λ r. ltb r.shape n) ≡ true → unknown_shape n l ≡ no_refusal
unfolding unknown_shape all
unknown_shape_known n [] h = refl
unknown_shape_known n (r ∷ l) h =
    let e = (and-eq-true_iff (ltb r.shape n) (all l (λ r. ltb r.shape n))).0 h in
    rw e.0 (unknown_shape_known n l e.1)

end_fits : {n : Bounds} {c : Case} → Fits n 6 c End (λ l. 0xff ∷ l)
unfolding judged shapes_named all
end_fits = record { known = omega arith; is = found_end; bytes = λ l. bytes_more (omega arith); within = refl; passes = λ row taken. refl; there = refl; named = refl }

-- the bounds of a case that is read under a profile
abbrev bounds_of : ℕ → Case → Bounds
bounds_of profile c = record { profile = profile; shapes = length c.shapes }

end_reads : {profile : ℕ} {c : Case} → Reads (bounds_of profile c) 6 c (0xff ∷ []) c
unfolding stepped finish after_end width_of format_of all
end_reads {c = c} =
    record {
      some = omega arith;
      are_bytes = bytes_more (omega arith) (record { each = refl });
      gives =
          λ {fuel} {s} {at} {p}.
          walk_fits end_fits [] (omega arith)
          (λ less b.
          let e = le-ltb (at + 1) (length s) (omega (arith, ap length b.left, length-drop at s)) in
          let written : length p.written ≡ length c.shapes = rw b.holds.written_is (plain_length c.shapes) in
          rw (e, written, unknown_shape_known (length c.shapes) p.named b.known) (record { unrefused = refl; holds = b.holds }));
    }

-- ---- Commands of one kind, one behind another: the case before each is the case with those of the list that stand before it

-- x stands in a list, with `prior` before it
record In {A : Type 0} (whole prior : List A) (x : A) : Type 0 where
  later : List A
  is : prior ++ (x ∷ later) ≡ whole

module _ {A : Type 0} {whole prior : List A} {x : A} (i : In whole prior x) where
  in_room : length prior < length whole
  in_room = omega (arith, ap length i.is, length-append prior (x ∷ i.later))

  in_limit : {limit : ℕ} → length whole ≤ limit → ltb (length prior) limit ≡ true
  in_limit h = omega (arith, tests, in_room)

  in_at : (d : A) → get_or whole (length prior) d ≡ x
  in_at d = rw (← i.is) (get_or-append_seam prior x i.later d)

  in_passes : (t : A → Bool) → all whole t ≡ true → t x ≡ true
  in_passes t h = rw (in_at x) at (all_in whole t h (length prior) x in_room)

-- how an element of a list is written, the command that it is, of the group g, and the case in which the first of the list have been read
record Kind {A : Type 0} (n : Bounds) (g : ℕ) (write : A → List ℕ → List ℕ) (make : A → Command) (put : List A → Case) (whole : List A) : Type 0 where
  second : 2 ≤ g
  goes_on : (x : A) → is_end (make x) ≡ false
  puts : (prior : List A) (x : A) → add (put prior) (make x) ≡ put (prior ++ (x ∷ []))
  fits : (prior : List A) (x : A) → In whole prior x → Fits n g (put prior) (make x) (write x)

module _ {A : Type 0} {n : Bounds} {g next : ℕ} {write : A → List ℕ → List ℕ} {make : A → Command} {put : List A → Case} {whole : List A} {l : List ℕ} {c : Case}
    (k : Kind n g write make put whole) (r : Reads n next (put whole) l c) (h : g ≤ next) where
  reads_later : (prior later : List A) → prior ++ later ≡ whole → Reads n g (put prior) (encode_all write later l) c
  unfolding encode_all
  reads_later prior [] e =
      let q : prior ≡ whole = sym (append-nil prior) ∙ e in
      rw q (record { some = r.some; are_bytes = r.are_bytes; gives = λ {fuel} {s} {at} {p} b o. r.gives b (order_later p.last g next k.second h o) })
  reads_later prior (x ∷ later) e =
      let rest = reads_later (prior ++ (x ∷ [])) later (append_assoc prior (x ∷ []) later ∙ e) in
      command_reads (k.fits prior x (record { later = later; is = e })) (k.goes_on x) (rw (← (k.puts prior x)) at rest) (order_again g k.second)

  reads_all : Reads n g (put []) (encode_all write whole l) c
  reads_all = reads_later [] whole refl

-- ---- The four kinds, and the whole encoding

abbrev case_with : ℕ → List Edge → List PathRule → List ShapeRule → List Target → Case
case_with n edges paths shapes targets = record { nodes = n; edges = edges; paths = paths; shapes = shapes; targets = targets }

-- an edge that is recorded: its code, and that 20 lets it through
edge_code : (before : List Edge) (e : Edge) → recorded_at before e ≡ true → (e.code ≡ 0x02) ⊎ (e.code ≡ 0x03)
unfolding recorded_at
edge_code before e h =
    ⊎_elim
    (λ x. inl (eqb-true e.code 0x02 x))
    (λ x. inr (eqb-true e.code 0x03 ((and-eq-true_iff (eqb e.code 0x03) (laid before e)).0 x).0))
    (or_cases (eqb e.code 0x02) (eqb e.code 0x03 && laid before e) h)

edge_there_lem : (before : List Edge) (e : Edge) → recorded_at before e ≡ true → not (eqb e.code 0x03) || laid before e ≡ true
unfolding recorded_at
edge_there_lem before e h =
    let parks : Bool = eqb e.code 0x03 in
    ⊎_elim
    (λ x. or_left (not parks) (laid before e) (ap (λ n. not (eqb n 0x03)) (eqb-true e.code 0x02 x)))
    (λ x. or_right (not parks) (laid before e) ((and-eq-true_iff parks (laid before e)).0 x).1)
    (or_cases (eqb e.code 0x02) (parks && laid before e) h)

module _ (profile : ℕ) (c : Case) (w : Writable profile c) where
  edge_kind : Kind (bounds_of profile c) 2 encode_edge EdgeCommand (λ l. case_with c.nodes l [] [] []) c.edges
  unfolding add counts_of judged shapes_named all
  edge_kind = record {
    second = omega arith;
    goes_on = λ e. refl;
    puts = λ prior e. refl;
    fits = λ prior e i.
        let ends = in_passes i (λ e. ltb e.subject.0 c.nodes && ltb e.object.0 c.nodes) w.sound.edges_known in
        let known : recorded_at prior e ≡ true = recorded_in c w.recorded prior e i.later i.is in
        let code = edge_code prior e known in
        record {
          known = omega arith;
          is = λ l. found_edge l e code;
          bytes =
              λ l.
              bytes_edge c.nodes e (omega (arith, nodes_at_most profile)) (⊎_elim (λ x. omega arith) (λ x. omega arith) code)
              (in_passes i (λ e. ltb e.property.0 256) w.one_byte.edges) ends;
          within = in_limit i w.limited.edges_limited;
          passes = λ row taken. rw (in_limit i w.limited.edges_limited, ends);
          there = edge_there_lem prior e known;
          named = refl;
        };
  }

  path_kind : Kind (bounds_of profile c) 3 encode_path PathCommand (λ l. case_with c.nodes c.edges l [] []) c.paths
  unfolding add counts_of judged shapes_named all path_rule path_paths_earlier
  path_kind = record {
    second = omega arith;
    goes_on = λ r. refl;
    puts = λ prior r. refl;
    fits = λ prior r i.
        let n = length prior in
        let earlier : path_paths_earlier n r ≡ true = rw (in_at i (Union (record { 0 = n }) (record { 0 = n }))) at (w.sound.paths_earlier_holds n (in_room i)) in
        record {
          known = omega arith;
          is = λ l. found_path l r;
          bytes = λ l b. bytes_path r l (in_passes i path_byte w.one_byte.paths) (bytes_below n (paths_of_path r) (omega (arith, in_room i)) earlier b);
          within = in_limit i w.limited.paths_limited;
          passes = λ row taken. rw (in_limit i w.limited.paths_limited, earlier);
          there = refl;
          named = refl;
        };
  }

  shape_kind : Kind (bounds_of profile c) 4 encode_shape ShapeCommand (λ l. case_with c.nodes c.edges c.paths l []) c.shapes
  unfolding add counts_of judged shapes_named shape_paths_earlier
  shape_kind = record {
    second = omega arith;
    goes_on = λ r. refl;
    puts = λ prior r. refl;
    fits = λ prior r i.
        let nodes = in_passes i (shape_nodes_known c.nodes) w.sound.shapes_known in
        let paths = in_passes i (shape_paths_earlier (length c.paths)) w.sound.shapes_paths in
        let named = in_passes i (λ r. all (references r) (λ s. ltb s (length c.shapes))) w.sound.shapes_named_holds in
        record {
          known = omega arith;
          is = λ l. found_shape l r;
          bytes =
              λ l b.
              bytes_shape c.nodes r l (omega (arith, nodes_at_most profile)) (in_passes i shape_byte w.one_byte.shapes) nodes
              (bytes_below (length c.paths) (paths_of_shape r) (omega arith) paths
              (bytes_below (length c.shapes) (references r) (omega (arith, shapes_at_most profile)) named b));
          within = in_limit i w.limited.shapes_limited;
          passes = λ row taken. rw (in_limit i w.limited.shapes_limited, nodes, paths, in_passes i shape_least_positive w.sound.least_positive_holds);
          there = refl;
          named = named;
        };
  }

  target_kind : Kind (bounds_of profile c) 5 encode_target TargetCommand (λ l. case_with c.nodes c.edges c.paths c.shapes l) c.targets
  unfolding add counts_of judged shapes_named all
  target_kind = record {
    second = omega arith;
    goes_on = λ t. refl;
    puts = λ prior t. refl;
    fits = λ prior t i.
        let node = in_passes i (λ t. ltb t.node.0 c.nodes) w.sound.targets_known in
        let shape = in_passes i (λ t. ltb t.shape.0 (length c.shapes)) w.sound.targets_named in
        record {
          known = omega arith;
          is = λ l. found_target l t;
          bytes = λ l. bytes_target t (omega (arith, tests, shapes_at_most profile)) (omega (arith, tests, nodes_at_most profile));
          within = in_limit i w.limited.targets_limited;
          passes = λ row taken. rw (in_limit i w.limited.targets_limited, node);
          there = refl;
          named = rw shape;
        };
  }

  nodes_fits : Fits (bounds_of profile c) 1 empty_case (Nodes c.nodes) (λ l. 0x01 ∷ two_bytes c.nodes l)
  unfolding judged shapes_named all
  nodes_fits = record {
    known = omega arith;
    is = λ l. found_nodes l c.nodes;
    bytes = λ l b. bytes_more (omega arith) (bytes_two (omega (arith, nodes_at_most profile)) b);
    within = le-leb c.nodes (node_limit profile) w.limited.nodes_limited;
    passes = λ row taken. rw (le-leb c.nodes (node_limit profile) w.limited.nodes_limited);
    there = refl;
    named = refl;
  }

  encode_reads : Reads (bounds_of profile c) 1 empty_case (encode_case c) c
  unfolding encode_case add empty_case
  encode_reads =
      let targets = reads_all target_kind end_reads (omega arith) in
      let shapes = reads_all shape_kind targets (omega arith) in
      let paths = reads_all path_kind shapes (omega arith) in
      let edges = reads_all edge_kind paths (omega arith) in
      command_reads nodes_fits refl edges refl

-- what has been read expands to the case, whose shapes are written plainly
expanded_held : {p : Progress} {c : Case} → Holds p c → expanded p ≡ c
unfolding expanded
expanded_held {c = c} h = rw (h.case_is, h.written_is, plain_expansion c.shapes)

-- a 00 with a known profile
pub heading_is : (profile : ℕ) (l : List ℕ) → is_profile profile ≡ true → heading_of (0x00 ∷ profile ∷ l) ≡ HeadingIs profile 2
unfolding heading_of complete width_of format_of row_of number_at
heading_is profile l h =
    let s : List ℕ = 0x00 ∷ profile ∷ l in
    rw (lt-ltb 0 (length s) (omega arith), le-leb 2 (length s) (omega arith), h)

module _ (profile : ℕ) (c : Case) (w : Writable profile c) where
  encoding_read : ReadAs (walked (encode profile c)) c
  unfolding walked walked_from encode start empty_case all
  encoding_read =
      let s = encode profile c in
      let begun : StandsBefore (bounds_of profile c) empty_case (encode_case c) (suc (length s)) s 2 (start profile) =
      record { left = refl; fuelled = omega arith; under = refl; holds = record { case_is = refl; written_is = refl }; known = refl } in
      rw (heading_is profile (encode_case c) w.limited.known) ((encode_reads profile c w).gives begun refl)

  pub read_back : ◌≡◌ {A = Outcome} (outcome (encode profile c)) (record { refusal = no_refusal; case = c })
  unfolding outcome
  read_back = rw (encoding_read.unrefused, expanded_held encoding_read.holds)

  encoding_bytes : all (encode profile c) (λ b. ltb b 256) ≡ true
  unfolding encode
  encoding_bytes =
      let behind : Bytes (profile ∷ encode_case c) = bytes_more (omega (arith, leb-true profile 2 w.limited.known)) (encode_reads profile c w).are_bytes in
      let whole : Bytes (0x00 ∷ profile ∷ encode_case c) = bytes_more (omega arith) behind in
      whole.each

-- ---- Of bytes, reading gives properties and least numbers of one byte

record BytesSoFar (p : Progress) : Type 0 where
  edges : all p.case.edges (λ e. ltb e.property.0 256) ≡ true
  paths : all p.case.paths path_byte ≡ true
  shapes : all p.written (ruled shape_byte) ≡ true

all_drop : (s : List ℕ) (n : ℕ) (t : ℕ → Bool) → all s t ≡ true → all (drop n s) t ≡ true
unfolding all
all_drop s zero t h = h
all_drop [] (suc n) t h = h
all_drop (x ∷ s) (suc n) t h = all_drop s n t ((and-eq-true_iff (t x) (all s t)).0 h).1

command_byte : (p : Progress) (at g : ℕ) (command : Command) → is_one_byte command ≡ true → BytesSoFar p → BytesSoFar (pass p at g (Other command))
unfolding is_one_byte pass add all
command_byte p at g (Nodes n) h o = record { edges = o.edges; paths = o.paths; shapes = o.shapes }
command_byte p at g (EdgeCommand e) h o = record { edges = rw (all_append, o.edges, h); paths = o.paths; shapes = o.shapes }
command_byte p at g (PathCommand r) h o = record { edges = o.edges; paths = rw (all_append, o.paths, h); shapes = o.shapes }
command_byte p at g (ShapeCommand r) h o = record { edges = o.edges; paths = o.paths; shapes = o.shapes }
command_byte p at g (TargetCommand t) h o = record { edges = o.edges; paths = o.paths; shapes = o.shapes }
command_byte p at g End h o = record { edges = o.edges; paths = o.paths; shapes = o.shapes }

entry_byte : (p : Progress) (part : List ℕ) (at g : ℕ) (e : Entry) → all part (λ b. ltb b 256) ≡ true → EntryShows p part g e → BytesSoFar p → BytesSoFar (pass p at g e)
unfolding EntryShows pass all
entry_byte p part at g (Shape x) b h o = record { edges = o.edges; paths = o.paths; shapes = rw (all_append, o.shapes, h.bytes b) }
entry_byte p part at g (Other command) b h o = command_byte p at g command (h.bytes b) o

start_bytes : (profile : ℕ) → BytesSoFar (start profile)
unfolding start empty_case all
start_bytes profile = record { edges = refl; paths = refl; shapes = refl }

bytes_each : (p : Progress) → BytesSoFar p → OneByteEach (expanded p)
unfolding expanded
bytes_each p o = record { edges = o.edges; paths = o.paths; shapes = expansion_passes byte_blind p.written o.shapes }

pub outcome_one_byte : (s : List ℕ) → all s (λ b. ltb b 256) ≡ true → OneByteEach (outcome s).case
unfolding outcome finish refused
outcome_one_byte s h =
    walked_keeps BytesSoFar (λ w. OneByteEach (expanded w.read)) s
    (λ n at k. bytes_each (start 0) (start_bytes 0))
    (λ end p k. by_test (eqb (after_end s end p).number 0) (λ e. rw e (bytes_each p k)) (λ e. rw e (bytes_each (start 0) (start_bytes 0))))
    (λ at p e taken k room o. entry_byte p (drop at s) at taken.group e (all_drop s at (λ b. ltb b 256) h) k.entry o)
    (λ h. start_bytes (profile_of s))

-- ---- The cases that can be written in bytes are exactly those that reading gives
pub sound_exactly : (profile : ℕ) (c : Case) → Writable profile c ↔ Readable profile c
unfolding profile_of encode
sound_exactly profile c = (
  λ w. record {
    bytes = encode profile c;
    are_bytes = encoding_bytes profile c w;
    under = ap heading_profile (heading_is profile (encode_case c) w.limited.known);
    reads = read_back profile c w;
  },
  λ r.
      let s = r.bytes in
      let is : (outcome s).case ≡ c = ap (λ o. o.case) r.reads in
      rw (← is, ← r.under)
      (record { sound = outcome_sound s; limited = outcome_limited s; one_byte = outcome_one_byte s r.are_bytes; recorded = outcome_recorded s }),
)
