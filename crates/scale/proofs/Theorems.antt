-- The statements of specs/ and the file in which each is proved: the table of contents of this folder.
use Rattle.scale.specs.Promise.{ThreeAtMost, GoRound, ByRules, OneMore, Downwards, Spans}
use Rattle.scale.specs.Laws.{HeightsAdd, HeightsSubtract, HeightsDown, QuotientSmall, CeilingLeast, ShortfallLeast, TurnsBegin}
use Rattle.scale.specs.Laws.{NoNoteNearer, BasisExists, BasisTold, BasisBegins, BasisGrows, IntervalNeeded, RepeatsJustIf}
use Rattle.scale.specs.Laws.{StepsByBasis, SizesListed, StepsCounted, NoteAlone, WholeJustIf, FirstWhole}
use Rattle.scale.specs.Laws.{NextPlace, PlacesByHeight, PlacesDiffer, PlacesFilled}
use Rattle.scale.specs.Scales.{FiveFifths, SevenFifths, SevenInTwelve}
use Rattle.scale.proofs.Heights as heights
use Rattle.scale.proofs.Quotients as quotients
use Rattle.scale.proofs.Basis as basis
use Rattle.scale.proofs.Growth as growth
use Rattle.scale.proofs.Steps as steps
use Rattle.scale.proofs.Sums as sums
use Rattle.scale.proofs.Sizes as sizes
use Rattle.scale.proofs.OneMore as more
use Rattle.scale.proofs.Mirror as mirror
use Rattle.scale.proofs.Whole as whole
use Rattle.scale.proofs.Walks as walks
use Rattle.scale.proofs.Places as places
use Rattle.scale.proofs.Rows as rows

-- Sizes, rules, one note more, the interval down, and spans

pub three_at_most : ThreeAtMost
three_at_most = sizes.three_at_most

pub go_round : GoRound
go_round = sums.go_round

pub by_rules : ByRules
by_rules = steps.by_rules

pub one_more : OneMore
one_more = more.one_more

pub downwards : Downwards
downwards = mirror.downwards

pub spans : Spans
spans = walks.spans

-- Heights

pub heights_add : HeightsAdd
heights_add = heights.heights_add

pub heights_subtract : HeightsSubtract
heights_subtract = heights.heights_subtract

pub heights_down : HeightsDown
heights_down = heights.heights_down

-- Quotients

pub quotient_small : QuotientSmall
quotient_small = quotients.quotient_small

pub ceiling_least : CeilingLeast
ceiling_least = quotients.ceiling_least

pub shortfall_least : ShortfallLeast
shortfall_least = quotients.shortfall_least

pub turns_begin : TurnsBegin
turns_begin = quotients.turns_begin

-- The basis of a tuning

pub no_note_nearer : NoNoteNearer
no_note_nearer = basis.no_note_nearer

pub basis_exists : BasisExists
basis_exists = growth.basis_exists

pub basis_told : BasisTold
basis_told = steps.basis_told

pub basis_begins : BasisBegins
basis_begins = growth.basis_begins

pub basis_grows : BasisGrows
basis_grows = growth.basis_grows

pub interval_needed : IntervalNeeded
interval_needed = growth.interval_needed

pub repeats_just_if : RepeatsJustIf
repeats_just_if = growth.repeats_just_if

-- Steps

pub steps_by_basis : StepsByBasis
steps_by_basis = steps.steps_by_basis

pub sizes_listed : SizesListed
sizes_listed = sizes.sizes_listed

pub steps_counted : StepsCounted
steps_counted = sizes.steps_counted

pub note_alone : NoteAlone
note_alone = sizes.note_alone

-- Whole scales

pub whole_just_if : WholeJustIf
whole_just_if = whole.whole_just_if

pub first_whole : FirstWhole
first_whole = whole.first_whole

-- Places

pub next_place : NextPlace
next_place = places.next_place

pub places_by_height : PlacesByHeight
places_by_height = places.places_by_height

pub places_differ : PlacesDiffer
places_differ = places.places_differ

pub places_filled : PlacesFilled
places_filled = places.places_filled

-- Scales written out

pub five_fifths : FiveFifths
five_fifths = rows.five_fifths

pub seven_fifths : SevenFifths
seven_fifths = rows.seven_fifths

pub seven_in_twelve : SevenInTwelve
seven_in_twelve = rows.seven_in_twelve
