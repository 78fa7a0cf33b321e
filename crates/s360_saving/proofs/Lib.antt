mod SavingLemmas
