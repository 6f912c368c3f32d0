-- What a value of each type can be: an error of the type, or the type's own form.
use Rattle.std.proofs.Common.{◌≡◌, ℕ, Bool, ◌⊎◌, length, refl, inl, inr}
use Rattle.numbers.specs.declared.number.Number.{Number}
use Rattle.numbers.specs.declared.fault.Fault.{Fault}
use Rattle.values.specs.Values.{Value, boolean, integer, error, array, record_of, union, Values, members}
use Rattle.values.specs.Trees.{Tree, Trees, Basic, Indexed, Each, Of, RowOf, OneOf}

-- An error value, of those that P admits.
abbrev pub Faulty : (Fault → Type 0) → Value → Type 0
Faulty P v = (f : Fault) × (v ≡ error f) × P f

abbrev pub Any : Fault → Type 0
Any f = Unit {0}

pub form_boolean : (v : Value) → Of Tree.boolean v → Faulty Basic v ⊎ ((b : Bool) × (v ≡ boolean b))
unfolding Of
form_boolean (boolean b) h = inr (b, refl)
form_boolean (integer n) h = elim h [ ]
form_boolean (error f) h = inl (f, refl, h)
form_boolean (array low vs) h = elim h [ ]
form_boolean (record_of vs) h = elim h [ ]
form_boolean (union tag v) h = elim h [ ]

pub form_integer : (v : Value) → Of Tree.integer v → Faulty Any v ⊎ ((n : Number) × (v ≡ integer n))
unfolding Of
form_integer (boolean b) h = elim h [ ]
form_integer (integer n) h = inr (n, refl)
form_integer (error f) h = inl (f, refl, h)
form_integer (array low vs) h = elim h [ ]
form_integer (record_of vs) h = elim h [ ]
form_integer (union tag v) h = elim h [ ]

pub form_array : (t : Tree) (v : Value) → Of (Tree.array t) v → Faulty Basic v ⊎ ((low : Number) × (vs : Values) × (v ≡ array low vs) × Indexed low.value (length (members vs)) × Each (Of t) vs)
unfolding Of
form_array t (boolean b) h = elim h [ ]
form_array t (integer n) h = elim h [ ]
form_array t (error f) h = inl (f, refl, h)
form_array t (array low vs) h = inr (low, vs, refl, h.0, h.1)
form_array t (record_of vs) h = elim h [ ]
form_array t (union tag v) h = elim h [ ]

pub form_record : (ts : Trees) (v : Value) → Of (Tree.record_of ts) v → Faulty Basic v ⊎ ((vs : Values) × (v ≡ record_of vs) × RowOf ts vs)
unfolding Of
form_record ts (boolean b) h = elim h [ ]
form_record ts (integer n) h = elim h [ ]
form_record ts (error f) h = inl (f, refl, h)
form_record ts (array low vs) h = elim h [ ]
form_record ts (record_of vs) h = inr (vs, refl, h)
form_record ts (union tag v) h = elim h [ ]

pub form_union : (ts : Trees) (v : Value) → Of (Tree.union ts) v → Faulty Basic v ⊎ ((tag : ℕ) × (w : Value) × (v ≡ union tag w) × OneOf ts tag w)
unfolding Of
form_union ts (boolean b) h = elim h [ ]
form_union ts (integer n) h = elim h [ ]
form_union ts (error f) h = inl (f, refl, h)
form_union ts (array low vs) h = elim h [ ]
form_union ts (record_of vs) h = elim h [ ]
form_union ts (union tag v) h = inr (tag, v, refl, h)
