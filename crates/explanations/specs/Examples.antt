-- The texts that explanations are made of: examples of the forms, the words of the forms, and what goes with a number.
use Rattle.std.specs.Prelude.{List, ◌++◌, ℕ}
use Rattle.tokens.specs.Text.{text}

-- a line of each form, and of each planform in it, with a bar after each; none is refused but the one that changes a
-- density, which has no job here. Their sizes fit beside any that is within its limits.
unfoldable pub examples : List ℕ
examples =
    text " ( set ( limit 64 ) ( count 1 ) ( trapezoid 1 1 1 0 ) ( thickness 0.000001 ) ( section square ) "
    ++ text "( tab 0.000001 0.000001 0 ) ( fillet 0.000001 ( bulk 1 ) ) ( cant 0 ) ( base 0 ) ( radius 64 ) "
    ++ text "( bulk 1 ) ) | ( set ( limit 64 ) ( count 1 ) ( ellipse 1 1 ) ( thickness 0.000001 ) ( section "
    ++ text "square ) ( tab 0.000001 0.000001 0 ) ( fillet 0.000001 ( bulk 1 ) ) ( cant 0 ) ( base 0 ) ( "
    ++ text "radius 64 ) ( bulk 1 ) ) | ( set ( limit 64 ) ( count 1 ) ( outline 0 0 0.5 0.5 1 0 ) ( "
    ++ text "thickness 0.000001 ) ( section square ) ( tab 0.000001 0.000001 0 ) ( fillet 0.000001 ( bulk 1 "
    ++ text ") ) ( cant 0 ) ( base 0 ) ( radius 64 ) ( bulk 1 ) ) | ( submit 1 ( set ( limit 64 ) ( count 1 "
    ++ text ") ( trapezoid 1 1 1 0 ) ( thickness 0.000001 ) ( section square ) ( tab 0.000001 0.000001 0 ) ( "
    ++ text "fillet 0.000001 ( bulk 1 ) ) ( cant 0 ) ( base 0 ) ( radius 64 ) ( bulk 1 ) ) ) | ( submit 1 ( "
    ++ text "set ( limit 64 ) ( count 1 ) ( ellipse 1 1 ) ( thickness 0.000001 ) ( section square ) ( tab "
    ++ text "0.000001 0.000001 0 ) ( fillet 0.000001 ( bulk 1 ) ) ( cant 0 ) ( base 0 ) ( radius 64 ) ( bulk "
    ++ text "1 ) ) ) | ( submit 1 ( set ( limit 64 ) ( count 1 ) ( outline 0 0 0.5 0.5 1 0 ) ( thickness "
    ++ text "0.000001 ) ( section square ) ( tab 0.000001 0.000001 0 ) ( fillet 0.000001 ( bulk 1 ) ) ( cant "
    ++ text "0 ) ( base 0 ) ( radius 64 ) ( bulk 1 ) ) ) | ( area ( limit 64 ) ( trapezoid 1 1 1 0 ) ) | ( "
    ++ text "area ( limit 64 ) ( ellipse 1 1 ) ) | ( area ( limit 64 ) ( outline 0 0 0.5 0.5 1 0 ) ) | ( "
    ++ text "drill ( trapezoid 1 1 1 0 ) ( at 0 0 ) ) | ( drill ( outline 0 0 0.5 0.5 1 0 ) ( at 0 0 ) ) | ( "
    ++ text "join ( point 1 0 0 0 ) ) | ( moments 0 0 0 0 0 0 ) | ( check ( mass 1 ) ( centre 0 0 0 ) ( "
    ++ text "inertia 0 0 0 0 0 0 ) ) | ( tubes ( count 1 ) ( length 1 ) ( outer 64 ) ( wall 0 ) ( base 0 ) ( "
    ++ text "radius 1 ) ( bulk 1 ) ) | ( closing ( count 1 ) ( radius 1 ) ) | ( copied ( body ( mass 1 ) ( "
    ++ text "centre 0 0 0 ) ( inertia 0 0 0 0 0 0 ) ) ( offset 0 0 ) ) | ( placed ( body ( mass 1 ) ( centre "
    ++ text "0 0 0 ) ( inertia 0 0 0 0 0 0 ) ) ( place 0 0 0 ) ) | ( moved ( body ( mass 1 ) ( centre 0 0 0 "
    ++ text ") ( inertia 0 0 0 0 0 0 ) ) ( body ( mass 0 ) ( centre 0 0 0 ) ( inertia 0 0 0 0 0 0 ) ) ( "
    ++ text "offset 0 0 0 ) ) | ( without ( body ( mass 1 ) ( centre 0 0 0 ) ( inertia 0 0 0 0 0 0 ) ) ( "
    ++ text "body ( mass 0 ) ( centre 0 0 0 ) ( inertia 0 0 0 0 0 0 ) ) ) | ( density 1 ( bulk 1 ) ) | ( "
    ++ text "turn ) | ( progress 1 ) |"

-- a count, the brackets, and the words of the forms
unfoldable pub form_words : List ℕ
form_words =
    text "1|(|)|set|area|join|moments|check|tubes|closing|drill|copied|placed|moved|without|submit|density|turn|"
    ++ text "progress|limit|count|trapezoid|ellipse|outline|thickness|section|square|rounded|airfoil|airfoil-open|tab|"
    ++ text "fillet|cant|base|radius|bulk|surface|line|length|outer|wall|at|point|body|mass|centre|inertia|"
    ++ text "offset|place"

-- what goes with a number, by that number and the first value with it: the field's name and limits of 4 and 9, the
-- component of 13, the case of 17
unfoldable pub details : List ℕ
details =
    text "4 1|; root chord: 2^-20 m to 64 m|"
    ++ text "4 2|; tip chord: 0, or 2^-20 m to 64 m|"
    ++ text "4 3|; span: 2^-20 m to 64 m|"
    ++ text "4 4|; sweep: 0, or 2^-20 m to 64 m either way|"
    ++ text "4 5|; x of an outline's point: 0, or 2^-20 m to 64 m either way|"
    ++ text "4 6|; height of an outline's point: 0, or 2^-20 m to 64 m|"
    ++ text "4 7|; thickness: 2^-20 m to 64 m; a tube's wall may be 0|"
    ++ text "4 8|; tab height: 2^-20 m to 64 m|"
    ++ text "4 9|; tab length: 2^-20 m to 64 m|"
    ++ text "4 10|; tab offset: 0, or 2^-20 m to 64 m either way|"
    ++ text "4 11|; body radius: 0, or 2^-20 m to 64 m|"
    ++ text "4 14|; tube length: 2^-20 m to 64 m|"
    ++ text "4 15|; outer radius: 2^-20 m to 64 m|"
    ++ text "4 16|; fillet radius: 0, or 2^-20 m to 64 m|"
    ++ text "4 17|; drill x: 0, or 2^-20 m to 64 m either way|"
    ++ text "4 18|; drill height: 0, or 2^-20 m to 64 m either way|"
    ++ text "4 19|; offset: 0, or 2^-20 m to 64 m either way|"
    ++ text "9 12|; cant: -4 to 4 rad|"
    ++ text "9 13|; base angle: -4 to 4 rad|"
    ++ text "9 20|; roll: -4 to 4 rad|"
    ++ text "13 0|; component 0|"
    ++ text "13 1|; component 1|"
    ++ text "13 2|; component 2|"
    ++ text "13 3|; component 3|"
    ++ text "13 4|; component 4|"
    ++ text "13 5|; component 5|"
    ++ text "13 6|; component 6|"
    ++ text "17 0|; an entry is not finite, or beyond 2^500|"
    ++ text "17 1|; the mass is 0, and an entry is not|"
    ++ text "17 3|; a moment is negative|"
    ++ text "17 4|; two moments together are less than the third"
