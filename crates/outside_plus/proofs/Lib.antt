mod SameAsPlus
