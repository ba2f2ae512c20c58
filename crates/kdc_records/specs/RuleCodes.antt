-- What each rule answers with (the numbers of RFC 4120, section 7.5.9; which one is an own choice where several fit).
use Rattle.std.specs.Prelude.{ℤ, pos}
use Rattle.kdc_records.specs.declared.rule.Rule.{Rule}
use Rattle.kdc_records.specs.declared.rule.Rule.TheVariants.{U1, U2, U3, U4, U5, A1, A2, A3, A4, A5, A6, A7, A8, A9, A10, G1, G2, G3, G4, G5, G6, G7, G8, G9, G10, G11, G12, G13, G14, G15, G16, G17, G18, G19, G20, G21, G22, S1, S2, S3, S4, S5, S6, S7, P1, P2, P3, P4, P5, P6, P7, P8, P9, P10, P11, P12, T1}

abbrev pub code_of : Rule → ℤ
code_of U1 = pos 61
code_of U2 = pos 40
code_of U3 = pos 60
code_of U4 = pos 3
code_of U5 = pos 68
code_of A1 = pos 6
code_of A2 = pos 18
code_of A3 = pos 7
code_of A4 = pos 10
code_of A5 = pos 13
code_of A6 = pos 14
code_of A7 = pos 25
code_of A8 = pos 24
code_of A9 = pos 37
code_of A10 = pos 11
code_of G1 = pos 16
code_of G2 = pos 35
code_of G3 = pos 44
code_of G4 = pos 31
code_of G5 = pos 31
code_of G6 = pos 36
code_of G7 = pos 50
code_of G8 = pos 41
code_of G9 = pos 37
code_of G10 = pos 33
code_of G11 = pos 32
code_of G12 = pos 41
code_of G13 = pos 20
code_of G14 = pos 18
code_of G15 = pos 12
code_of G16 = pos 28
code_of G17 = pos 10
code_of G18 = pos 13
code_of G19 = pos 7
code_of G20 = pos 19
code_of G21 = pos 14
code_of G22 = pos 13
code_of S1 = pos 13
code_of S2 = pos 50
code_of S3 = pos 41
code_of S4 = pos 13
code_of S5 = pos 68
code_of S6 = pos 6
code_of S7 = pos 18
code_of P1 = pos 13
code_of P2 = pos 35
code_of P3 = pos 44
code_of P4 = pos 31
code_of P5 = pos 41
code_of P6 = pos 36
code_of P7 = pos 32
code_of P8 = pos 12
code_of P9 = pos 13
code_of P10 = pos 13
code_of P11 = pos 13
code_of P12 = pos 13
code_of T1 = pos 11
